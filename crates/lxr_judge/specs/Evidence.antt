-- What a judge has before it: the script and the terms, the lines of a finished output, and an order of calls and pauses.
use Rattle.std.specs.Prelude.{ℕ, ◌+◌, ◌-◌, ◌/◌, Bool, false, List, length, take, drop, slice_index_or}
use Rattle.lxr_text_script.specs.declared.TheConstants.{SCRIPT_REGISTERS}
use Rattle.lxr_text_script.specs.Lines.{Text}
use Rattle.lxr_text_script.specs.Reading.{threads_in}
use Rattle.lxr_judge_output.specs.Form.{Grouped, Gathered}
use Rattle.lxr_case.specs.declared.Case.{Case}
use Rattle.lxr_graph.specs.declared.Item as ordered
use Rattle.lxr_case.specs.declared.Terms as given
use Rattle.lxr_model.specs.Terms.{Terms}
use Rattle.lxr_model.specs.Belongs.{Script}

-- the terms with the number of threads; the script; whether counts are printed; the reports and the replies by their lines; in which order
-- calls and pauses are said to have stood
pub record Evidence : Type 0 where
  pub terms : Terms
  pub script : Script
  pub counts : Bool
  pub output : Gathered Text
  pub order : List ordered.Item

-- ---- lines

-- before how many lines group number i begins, where the first group has number 0; behind the last group, how many lines there are
abbrev pub begin_of : {T : Type 0} → Grouped T → ℕ → ℕ
begin_of g i = slice_index_or g.starts i (length g.lines)

-- the lines of group number i
abbrev pub group : {T : Type 0} → Grouped T → ℕ → List T
group g i = take (begin_of g (i + 1) - begin_of g i) (drop (begin_of g i) g.lines)

-- how many reports were printed
abbrev pub report_count : Evidence → ℕ
report_count e = length e.output.reports.starts

-- the lines of report number i, the first of which has number 0
abbrev pub report_lines : Evidence → ℕ → List Text
report_lines e i = group e.output.reports i

-- the lines of thread t's replies
abbrev pub reply_lines : Evidence → ℕ → List Text
reply_lines e t = group e.output.replies (t - 1)

-- ---- from a case

-- the numbers of a run of so many threads
abbrev pub terms_of : ℕ → given.Terms → Terms
terms_of threads terms = record {
  threads = threads;
  registers = SCRIPT_REGISTERS;
  blocks = terms.blocks;
  evacuate = terms.blocks / 8;
  every = terms.every;
  log = terms.log;
  trace = terms.trace;
  within = terms.within;
  renews = false;
}

-- what a case says under terms, where this is gathered of its output
abbrev pub evidence_of : Case → given.Terms → Gathered Text → Evidence
evidence_of case terms gathered = record {
  terms = terms_of (length (threads_in case.script)) terms;
  script = threads_in case.script;
  counts = terms.counts;
  output = gathered;
  order = case.order.items;
}
