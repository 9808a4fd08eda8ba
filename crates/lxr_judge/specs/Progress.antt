-- What a judge keeps of a history beside its moment.
use Rattle.std.specs.Prelude.{◌≡◌, ℕ, ◌+◌, ◌-◌, ◌^◌, ◌≤◌, min, Bool, true, false, ◌&&◌, ◌||◌, nat_eq, nat_lt, List, length, replicate, slice_index, slice_index_or, slice_set, if◌then◌else◌}
use Rattle.lxr_graph.specs.declared.Op.{Op}
use Rattle.lxr_graph.specs.declared.Op.TheVariants as op
use Rattle.lxr_graph.specs.declared.Reply.{Reply}
use Rattle.lxr_graph.specs.declared.Reply.TheVariants as reply
use Rattle.lxr_graph.specs.declared.report.Kind.{Kind}
use Rattle.lxr_graph.specs.History.{Item, calls_of}
use Rattle.lxr_model.specs.Terms.{Terms}
use Rattle.lxr_model.specs.Kinds.{collect_called, ends}
use Rattle.lxr_model.specs.Belongs.{asks_for_pause, has_asked, calls_since_pause}
use Rattle.lxr_model_decide.specs.Legality.{only_news_since_pause, is_collect, is_right_after_collecting}
use Rattle.lxr_model_decide.specs.Belonging.{last_pause_was_early, ends_with_pause}
use Rattle.lxr_judge.specs.declared.progress.Progress.{Progress}
use Rattle.lxr_judge.specs.Taking.{pauses_in}

-- what is kept is of history h
pub record Tells (terms : Terms) (p : Progress) (h : List Item) : Type 0 where
  pub sizes : (length p.calls ≡ 16) × (length p.since ≡ 16) × (length p.asked ≡ 16)
  pub calls : (t : ℕ) → 1 ≤ t → t ≤ 16 → slice_index p.calls (t - 1) ≡ length (calls_of t h)
  pub since : (t : ℕ) → 1 ≤ t → t ≤ 16 → slice_index p.since (t - 1) ≡ calls_since_pause t h
  pub asked : (t : ℕ) → 1 ≤ t → t ≤ 16 → slice_index_or p.asked (t - 1) false ≡ has_asked t h
  pub items : p.items ≡ length h
  pub pauses : p.pauses ≡ pauses_in h
  pub ended : p.ended ≡ ends h
  pub collect_called : p.collect_called ≡ collect_called h
  pub only_news : p.only_news ≡ only_news_since_pause h
  pub collected : p.collected ≡ is_right_after_collecting h
  pub early : p.early ≡ last_pause_was_early terms h
  pub whole : p.whole ≡ ends_with_pause terms h

-- a count raised by one; at its type's end it stands still
abbrev pub raised : ℕ → ℕ
raised n = min (n + 1) (2 ^ 32 - 1)

-- what is kept behind a call that isn't a `new`, which may be a `collect` or an end
abbrev pub interrupted : Progress → Bool → Bool → Progress
interrupted p collects ends = record p {
  collected = false;
  only_news = false;
  collect_called = p.collect_called || collects;
  ended = if ends then raised p.ended else p.ended;
}

-- the reply is `full`
abbrev pub is_full : Reply → Bool
is_full reply.Full = true
is_full r = false

-- what an operation and its reply are to the next pause
abbrev pub noted : Progress → Op → Reply → Progress
noted p (op.New dest shape) r = record p { collected = p.collected && is_full r }
noted p op.Collect r = interrupted p true false
noted p op.End r = interrupted p false true
noted p o r = interrupted p false false

-- what is kept behind a call of a thread
abbrev pub called : Progress → ℕ → Op → Reply → Progress
called p t o r = noted (record p {
  calls = slice_set p.calls (t - 1) (raised (slice_index p.calls (t - 1)));
  since = slice_set p.since (t - 1) (raised (slice_index p.since (t - 1)));
  asked = slice_set p.asked (t - 1) (slice_index_or p.asked (t - 1) false || asks_for_pause o);
  items = raised p.items;
  whole = false;
}) o r

-- what is kept behind a pause of a kind, where there are so many threads
abbrev pub paused : Progress → ℕ → Kind → Progress
paused p threads k = record p {
  since = replicate 16 0;
  asked = replicate 16 false;
  items = raised p.items;
  pauses = raised p.pauses;
  collect_called = false;
  only_news = true;
  collected = is_collect k;
  early = nat_lt p.ended threads;
  whole = nat_eq p.ended threads && p.early;
}
