-- What the walk of `clap` over the words comes to, for the command of a table: it takes the words just
-- where they give options, each once, and the rows that it leaves are those options with their texts.
use Rattle.std.proofs.Common.{◌≡◌, ◌∙◌, ◌&&◌, ◌||◌, ◌⊎◌, ◌++◌, ℕ, zero, suc, Bool, cond, not, true, false, refl, sym, ap, ap₂, subst, List, [], ◌∷◌, map, length, Option, Some, None, option_map, is_some, codes, inl, inr, true≢false, append_assoc, append-nil, fold, slice_get, drop, nat_lt, if◌then◌else◌}
use Rattle.std.specs.List.{list_all, list_any}
use Rattle.std.specs.Option.{option_map_or}
use Rattle.std.specs.Prelude.{option_and_then, encode_utf8}
use Rattle.std.specs.Str.{bytes_eq, chars}
use Rattle.clap.specs.Lexer.{long_of, long_of_rest, short_of, short_of_rest, strip_byte}
use Rattle.clap.specs.Kinds.{Kinds, or_else}
use Rattle.clap.specs.Walk.{Held, Outcome, Row, Rule, Step, Waiting, Walk, after_flag, after_step, arg_by_long, at_row, bundle, bundle_met, has_row, idle, long_met, long_or_other, more_values, nothing_held, option, option_word, plain, plain_word, next, positional, settled, settled_rows, short_or_plain, used, used_by_id, walk_from, walked, value}
use Rattle.clap.specs.Faults.{bundle_fault, flag_word_fault, flags_fault, long_fault, positional_fault, react_fault, repeat_fault, settle_fault, short_fault, step_fault, turn_fault, use_fault, walk_fault}
use Rattle.clap.specs.declared.builder.value_parser.Reading.TheVariants.{AsWritten}
use Rattle.clap.specs.declared.error.kind.ErrorKind.TheVariants as kind
use Rattle.clap.specs.declared.parser.matches.ValueSource.TheVariants.{CommandLine}
use Rattle.clap.proofs.WalkLemmas.{list_any-map}
use Rattle.lxr_words.specs.Number.{Text}
use Rattle.lxr_words.specs.Settings.{Settings, KnownOption, Table, after_word, dashes, each_once, fits, settings_in, is_accepted, is_set, option_named, with_setting, word_for}
use Rattle.std.proofs.Math.Bool.{and-false}
use Rattle.lxr_words.proofs.Lists.{all_fails, eq_refl, once_more, twice, with_first}
use Rattle.lxr_words.proofs.Rules.{built_for, built_rules, by_id, by_long, from_long, hyphen_no_fit, known_itself, no_place, no_short, shape_for, word_is}

-- ---- kinds

abbrev pub refuses : Kinds → Bool
refuses [] = false
refuses (k ∷ ks) = true

first_refuses : (a b : Kinds) → refuses a ≡ true → refuses (or_else a b) ≡ true
first_refuses [] b e = absurd (true≢false (sym e))
first_refuses (k ∷ ks) b e = refl

second_refuses : (a b : Kinds) → refuses b ≡ true → refuses (or_else a b) ≡ true
second_refuses [] b e = e
second_refuses (k ∷ ks) b e = refl

pub or_else_nil : (a : Kinds) → or_else a [] ≡ a
or_else_nil [] = refl
or_else_nil (k ∷ ks) = refl

or_else_assoc : (a b c : Kinds) → or_else (or_else a b) c ≡ or_else a (or_else b c)
or_else_assoc [] b c = refl
or_else_assoc (k ∷ ks) b c = refl

-- ---- rows

abbrev pub row_for : Text × Text → Row
row_for p = record {
  id = p.0;
  values = p.1 ∷ [];
  count = None;
  source = Some CommandLine;
  reading = AsWritten;
}

abbrev pub rows_for : Settings → List Row
rows_for g = map row_for g

has_row_is : (name : Text) (g : Settings) → has_row name (rows_for g) ≡ is_set name g
has_row_is name g = sym (list_any-map (λ r. bytes_eq r.id name) row_for g)

row_missing : (name : Text) (change : Row → List Row) (missing : List Row) (g : Settings) → is_set name g ≡ false
    → at_row name change missing (rows_for g) ≡ rows_for g ++ missing
row_missing name change missing [] e = refl
row_missing name change missing (p ∷ g) e = go (bytes_eq p.0 name) refl (row_missing name change missing g)
  where
    go : (b : Bool) → bytes_eq p.0 name ≡ b → (is_set name g ≡ false → at_row name change missing (rows_for g) ≡ rows_for g ++ missing)
        → at_row name change missing (rows_for (p ∷ g)) ≡ rows_for (p ∷ g) ++ missing
    go true q ih = absurd (true≢false (ap (λ b. b || is_set name g) (sym q) ∙ e))
    go false q ih =
        ap (λ b. cond b (change (row_for p) ++ rows_for g) (row_for p ∷ at_row name change missing (rows_for g))) q
        ∙ ap (λ rs. row_for p ∷ rs) (ih (ap (λ b. b || is_set name g) (sym q) ∙ e))

rows-append : (g h : Settings) → rows_for (g ++ h) ≡ rows_for g ++ rows_for h
rows-append [] h = refl
rows-append (p ∷ g) h = ap (λ rs. row_for p ∷ rs) (rows-append g h)

-- a use of an option that has no row adds its row
added : (name x : Text) (g : Settings) → is_set name g ≡ false
    → at_row name (more_values CommandLine (x ∷ [])) (row_for (name, x) ∷ []) (at_row name (λ _. []) [] (rows_for g)) ≡ rows_for (g ++ (name, x) ∷ [])
added name x g e =
    ap (at_row name (more_values CommandLine (x ∷ [])) (row_for (name, x) ∷ [])) (row_missing name (λ _. []) [] g e ∙ append-nil (rows_for g))
    ∙ row_missing name (more_values CommandLine (x ∷ [])) (row_for (name, x) ∷ []) g e ∙ sym (rows-append g ((name, x) ∷ []))

used_option : (r : ℕ × ℕ) (name x : Text) (g : Settings) → is_set name g ≡ false → used (built_for (record { name = name; range = Some r })) (x ∷ []) (rows_for g) ≡ rows_for (g ++ (name, x) ∷ [])
used_option r name x g e = added name x g e

used_flag : (name : Text) (g : Settings) → is_set name g ≡ false → used (built_for (record { name = name; range = None })) [] (rows_for g) ≡ rows_for (g ++ (name, codes "true") ∷ [])
used_flag name g e = added name (codes "true") g e

-- ---- the walk

abbrev pub no_dashes : List Text → Bool
no_dashes words = not (list_any (λ w. bytes_eq w dashes) words)

abbrev pub held : List Row → Option (Text × List Text) → Held
held rows pending = record { rows = rows; pending = pending; skip = 0 }

abbrev pub at : List Row → Option (Text × List Text) → Waiting → Walk
at rows pending waiting = record {
  held = held rows pending;
  waiting = waiting;
  position = 1;
  is_trailing = false;
  stopped = None;
}

module _ (title : Text) (t : Table) where
  abbrev c : List Rule
  c = built_rules t

  -- the kinds of error of the walk and of the argument that is pending at its end, and the rows there
  abbrev pub ending : Walk → List Text → Kinds
  ending w words = or_else (walk_fault (shape_for title (built_rules t)) [] w words) (settle_fault (built_rules t) false (fold (walked (built_rules t) []) w words).held)

  abbrev pub end_rows : Walk → List Text → List Row
  end_rows w words = (settled (built_rules t) (fold (walked (built_rules t) []) w words).held).rows

  -- what the words come to: they are taken, or they are refused and not accepted
  pub record Taken (kinds : Kinds) (rows : List Row) (g : Settings) (read : Option Settings) : Type 0 where
    pub more : Settings
    pub read_is : read ≡ Some more
    pub once : each_once (g ++ more) ≡ true
    pub kinds_are : kinds ≡ []
    pub rows_are : rows ≡ rows_for (g ++ more)

  pub record Refused (kinds : Kinds) (g : Settings) (read : Option Settings) : Type 0 where
    pub kinds_are : refuses kinds ≡ true
    pub not_accepted : (more : Settings) → read ≡ Some more → is_accepted t (g ++ more) ≡ false

  abbrev Out : Kinds → List Row → Settings → Option Settings → Type 0
  Out kinds rows g read = Taken kinds rows g read ⊎ Refused kinds g read

  -- ---- one word

  abbrev word_fault_at : Option (Text × Option Text) → Held → Waiting → Text → Kinds
  word_fault_at o h waiting word =
      or_else (flag_word_fault (built_rules t) false o word h) (step_fault (shape_for title (built_rules t)) 1 (long_or_other (built_rules t) waiting word o h).0 (long_or_other (built_rules t) waiting word o h).1)

  abbrev next_at : Option (Text × Option Text) → List Row → Option (Text × List Text) → Waiting → Text → Walk
  next_at o rows pending waiting word =
      after_step (built_rules t) word (at rows pending waiting) (long_or_other (built_rules t) waiting word o (held rows pending)).0 (long_or_other (built_rules t) waiting word o (held rows pending)).1

  turn_is : (rows : List Row) (pending : Option (Text × List Text)) (waiting : Waiting) (word : Text) → bytes_eq word dashes ≡ false
      → turn_fault (shape_for title (built_rules t)) [] (at rows pending waiting) word ≡ word_fault_at (long_of word) (held rows pending) waiting word
  turn_is rows pending idle word e = rw e refl
  turn_is rows pending (option n) word e = rw e refl
  turn_is rows pending positional word e = rw e refl

  walked_is : (rows : List Row) (pending : Option (Text × List Text)) (waiting : Waiting) (word : Text) → bytes_eq word dashes ≡ false
      → walked (built_rules t) [] (at rows pending waiting) word ≡ next_at (long_of word) rows pending waiting word
  unfolding walked
  walked_is rows pending idle word e = rw e refl
  walked_is rows pending (option n) word e = rw e refl
  walked_is rows pending positional word e = rw e refl

  ending_is : (rows : List Row) (pending : Option (Text × List Text)) (waiting : Waiting) (word : Text) (rest : List Text) → bytes_eq word dashes ≡ false
      → ending (at rows pending waiting) (word ∷ rest) ≡ or_else (word_fault_at (long_of word) (held rows pending) waiting word) (ending (next_at (long_of word) rows pending waiting word) rest)
  unfolding walk_fault
  ending_is rows pending waiting word rest e =
      or_else_assoc (turn_fault (shape_for title (built_rules t)) [] (at rows pending waiting) word) (walk_fault (shape_for title (built_rules t)) [] (walked (built_rules t) [] (at rows pending waiting) word) rest) _
      ∙ ap₂ (λ k w. or_else k (ending w rest)) (turn_is rows pending waiting word e) (walked_is rows pending waiting word e)

  end_rows_are : (rows : List Row) (pending : Option (Text × List Text)) (waiting : Waiting) (word : Text) (rest : List Text) → bytes_eq word dashes ≡ false
      → end_rows (at rows pending waiting) (word ∷ rest) ≡ end_rows (next_at (long_of word) rows pending waiting word) rest
  end_rows_are rows pending waiting word rest e = ap (λ w. end_rows w rest) (walked_is rows pending waiting word e)

  -- ---- short flags, of which the command has none

  -- the flags are refused, or the word is read as a plain one
  data Bundle (flags : Text) (h : Held) : Type 0 where
    refused_bundle : refuses (bundle_fault (built_rules t) false flags h) ≡ true → Bundle flags h
    plain_bundle : bundle_fault (built_rules t) false flags h ≡ [] → bundle (built_rules t) flags h ≡ (h, plain) → Bundle flags h

  no_flag : (k : ℕ) (flags : Text) (h : Held) → (refuses (flags_fault (built_rules t) false k flags 0 h) ≡ true)
      ⊎ ((flags_fault (built_rules t) false k flags 0 h ≡ []) × (bundle_met (built_rules t) k flags 0 plain h ≡ (h, plain)))
  unfolding flags_fault bundle_met
  no_flag zero flags h = inr (refl, refl)
  no_flag (suc k) flags h = go (slice_get (chars flags) 0) refl
    where
      go : (o : Option ℕ) → slice_get (chars flags) 0 ≡ o → (refuses (flags_fault (built_rules t) false (suc k) flags 0 h) ≡ true)
          ⊎ ((flags_fault (built_rules t) false (suc k) flags 0 h ≡ []) × (bundle_met (built_rules t) (suc k) flags 0 plain h ≡ (h, plain)))
      go None e = inr (rw e refl, rw e refl)
      go (Some x) e = inl (rw e (ap (λ o. refuses (short_fault (built_rules t) false o (drop (length (encode_utf8 x)) flags) h (flags_fault (built_rules t) false k (drop (length (encode_utf8 x)) flags) 0))) (no_short t x)))

  -- ---- outcomes

  out_as : (kinds kinds' : Kinds) (rows rows' : List Row) (g : Settings) (read : Option Settings) → kinds ≡ kinds' → rows ≡ rows' → Out kinds' rows' g read → Out kinds rows g read
  out_as kinds kinds' rows rows' g read e f (inl y) = inl (record { more = y.more; read_is = y.read_is; once = y.once; kinds_are = e ∙ y.kinds_are; rows_are = f ∙ y.rows_are })
  out_as kinds kinds' rows rows' g read e f (inr n) = inr (record { kinds_are = ap refuses e ∙ n.kinds_are; not_accepted = n.not_accepted })

  -- what is read after one more option is read with it
  carry : (kinds : Kinds) (rows : List Row) (g : Settings) (n x : Text) (read : Option Settings) → Out kinds rows (g ++ (n, x) ∷ []) read → Out kinds rows g (with_setting n x read)
  carry kinds rows g n x read (inl y) =
      let joined : (g ++ (n, x) ∷ []) ++ y.more ≡ g ++ (n, x) ∷ y.more = append_assoc g ((n, x) ∷ []) y.more in
      inl (record {
        more = (n, x) ∷ y.more;
        read_is = ap (with_setting n x) y.read_is;
        once = ap each_once (sym joined) ∙ y.once;
        kinds_are = y.kinds_are;
        rows_are = y.rows_are ∙ ap rows_for joined;
      })
  carry kinds rows g n x read (inr r) = inr (record {
    kinds_are = r.kinds_are;
    not_accepted = λ more e.
        let w : (m : Settings) × (read ≡ Some m) × (more ≡ (n, x) ∷ m) = with_first n x read more e in
        let joined : (g ++ (n, x) ∷ []) ++ w.0 ≡ g ++ (n, x) ∷ w.0 = append_assoc g ((n, x) ∷ []) w.0 in
        ap (λ m. is_accepted t (g ++ m)) w.2 ∙ ap (is_accepted t) (sym joined) ∙ r.not_accepted w.0 w.1;
  })

  refused_stray : (kinds : Kinds) (rows : List Row) (g : Settings) → refuses kinds ≡ true → Out kinds rows g None
  refused_stray kinds rows g e = inr (record { kinds_are = e; not_accepted = λ more f. absurd (true≢false (ap is_some (sym f))) })

  -- an option of a name that is given already
  refused_twice : (kinds : Kinds) (rows : List Row) (g : Settings) (n x : Text) (read : Option Settings) → refuses kinds ≡ true → is_set n g ≡ true → Out kinds rows g (with_setting n x read)
  refused_twice kinds rows g n x read e f = inr (record {
    kinds_are = e;
    not_accepted = λ more q.
        let w : (m : Settings) × (read ≡ Some m) × (more ≡ (n, x) ∷ m) = with_first n x read more q in
        ap (λ m. is_accepted t (g ++ m)) w.2 ∙ ap (λ b. b && list_all (fits t) (g ++ (n, x) ∷ w.0)) (twice n x g w.0 f);
  })

  -- an option whose text does not fit
  refused_text : (kinds : Kinds) (rows : List Row) (g : Settings) (n x : Text) (read : Option Settings) → refuses kinds ≡ true → fits t (n, x) ≡ false → Out kinds rows g (with_setting n x read)
  refused_text kinds rows g n x read e f = inr (record {
    kinds_are = e;
    not_accepted = λ more q.
        let w : (m : Settings) × (read ≡ Some m) × (more ≡ (n, x) ∷ m) = with_first n x read more q in
        ap (λ m. is_accepted t (g ++ m)) w.2 ∙ ap (λ b. each_once (g ++ (n, x) ∷ w.0) && b) (all_fails (fits t) g (n, x) w.0 f) ∙ and-false _;
  })

  -- ---- one use

  use_option : (n x : Text) (r : ℕ × ℕ) (rows : List Row) → use_fault false (built_for (record { name = n; range = Some r })) (x ∷ []) rows ≡ repeat_fault false n rows
  use_option n x r rows = or_else_nil (repeat_fault false n rows)

  use_flag : (n : Text) (rows : List Row) → use_fault false (built_for (record { name = n; range = None })) [] rows ≡ repeat_fault false n rows
  use_flag n rows = or_else_nil (repeat_fault false n rows)

  repeat_yes : (n : Text) (g : Settings) → is_set n g ≡ true → repeat_fault false n (rows_for g) ≡ kind.ArgumentConflict ∷ []
  repeat_yes n g e = ap (λ b. cond (b && true) (kind.ArgumentConflict ∷ []) []) (has_row_is n g ∙ e)

  repeat_no : (n : Text) (g : Settings) → is_set n g ≡ false → repeat_fault false n (rows_for g) ≡ []
  repeat_no n g e = ap (λ b. cond (b && true) (kind.ArgumentConflict ∷ []) []) (has_row_is n g ∙ e)

  -- between two options: what is pending settles without a fault to the rows of g
  record Standing (rows : List Row) (pending : Option (Text × List Text)) (g : Settings) : Type 0 where
    settles : settle_fault (built_rules t) false (held rows pending) ≡ []
    rows_are : settled_rows (built_rules t) pending rows ≡ rows_for g
    once : each_once g ≡ true

  react_is : (rows : List Row) (pending : Option (Text × List Text)) (g : Settings) → Standing rows pending g → (a : Rule) (vs : List Text)
      → react_fault (built_rules t) false a vs (held rows pending) ≡ use_fault false a vs (rows_for g)
  react_is rows pending g st a vs = ap₂ (λ k rs. or_else k (use_fault false a vs rs)) st.settles st.rows_are

  IsNumber : Text → ℕ × ℕ → Type 0
  IsNumber n r = option_named t n ≡ Some (record { name = n; range = Some r })

  -- the option n waits for its text
  settle_none : (rows : List Row) (n : Text) (r : ℕ × ℕ) → option_named t n ≡ Some (record { name = n; range = Some r }) → refuses (settle_fault (built_rules t) false (held rows (Some (n, [])))) ≡ true
  settle_none rows n r e = ap (λ o. refuses (option_map_or (λ a. use_fault false a [] rows) o [])) (by_id t n _ e)

  -- it has its text
  settle_one : (rows : List Row) (n x : Text) (r : ℕ × ℕ) → option_named t n ≡ Some (record { name = n; range = Some r })
      → settle_fault (built_rules t) false (held rows (Some (n, x ∷ []))) ≡ repeat_fault false n rows
  settle_one rows n x r e = ap (λ o. option_map_or (λ a. use_fault false a (x ∷ []) rows) o []) (by_id t n _ e) ∙ use_option n x r rows

  settled_one : (g : Settings) (n x : Text) (r : ℕ × ℕ) → option_named t n ≡ Some (record { name = n; range = Some r }) → is_set n g ≡ false
      → settled_rows (built_rules t) (Some (n, x ∷ [])) (rows_for g) ≡ rows_for (g ++ (n, x) ∷ [])
  settled_one g n x r e f = ap (λ o. used_by_id o (x ∷ []) (rows_for g)) (by_id t n _ e) ∙ used_option r n x g f

  -- ---- a long word

  abbrev long_at : Option Rule → Option Text → Held → Waiting → Text → Kinds
  long_at found v h waiting word = or_else (long_fault (built_rules t) false found v h)
      (step_fault (shape_for title (built_rules t)) 1 (after_flag (built_rules t) waiting word (long_met (built_rules t) found v h).0 (long_met (built_rules t) found v h).1).0
      (after_flag (built_rules t) waiting word (long_met (built_rules t) found v h).0 (long_met (built_rules t) found v h).1).1)

  abbrev next_long : Option Rule → Option Text → List Row → Option (Text × List Text) → Waiting → Text → Walk
  next_long found v rows pending waiting word = after_step (built_rules t) word (at rows pending waiting)
      (after_flag (built_rules t) waiting word (long_met (built_rules t) found v (held rows pending)).0 (long_met (built_rules t) found v (held rows pending)).1).0
      (after_flag (built_rules t) waiting word (long_met (built_rules t) found v (held rows pending)).0 (long_met (built_rules t) found v (held rows pending)).1).1

  -- where what is pending does not settle, any long word is refused
  long_refuses : (ko : Option KnownOption) (v : Option Text) (h : Held) → refuses (settle_fault (built_rules t) false h) ≡ true → refuses (long_fault (built_rules t) false (option_map built_for ko) v h) ≡ true
  long_refuses None v h e = refl
  long_refuses (Some k) v h e = go k.range v
    where
      go : (r : Option (ℕ × ℕ)) (v : Option Text) → refuses (long_fault (built_rules t) false (Some (built_for (record { name = k.name; range = r }))) v h) ≡ true
      go (Some r) (Some x) = first_refuses _ _ e
      go (Some r) None = e
      go None (Some x) = refl
      go None None = first_refuses _ _ e

  abbrev Idle : List Text → Type 0
  Idle words = (rows : List Row) (pending : Option (Text × List Text)) (g : Settings) → Standing rows pending g → no_dashes words ≡ true
      → Out (ending (at rows pending idle) words) (end_rows (at rows pending idle) words) g (settings_in t words None)

  abbrev Waits : List Text → Type 0
  Waits words = (n : Text) (r : ℕ × ℕ) (g : Settings) → option_named t n ≡ Some (record { name = n; range = Some r }) → each_once g ≡ true → no_dashes words ≡ true
      → Out (ending (at (rows_for g) (Some (n, [])) (option n)) words) (end_rows (at (rows_for g) (Some (n, [])) (option n)) words) g (settings_in t words (Some n))

  module _ (rows : List Row) (pending : Option (Text × List Text)) (g : Settings) (st : Standing rows pending g) (word : Text) (rest : List Text)
      (again : Idle rest) (waits : Waits rest) (clear : no_dashes rest ≡ true) where
    abbrev Goes : Option KnownOption → Option Text → Type 0
    Goes ko v = Out (or_else (long_at (option_map built_for ko) v (held rows pending) idle word) (ending (next_long (option_map built_for ko) v rows pending idle word) rest))
        (end_rows (next_long (option_map built_for ko) v rows pending idle word) rest) g (after_word (word_for ko v) (settings_in t rest))

    -- `--name=x`
    with_value : (n x : Text) (r : ℕ × ℕ) (b : Bool) → is_set n g ≡ b → Goes (Some (record { name = n; range = Some r })) (Some x)
    with_value n x r true e =
        let a : Rule = built_for (record { name = n; range = Some r }) in
        let react : react_fault (built_rules t) false a (x ∷ []) (held rows pending) ≡ kind.ArgumentConflict ∷ [] = react_is rows pending g st a (x ∷ []) ∙ use_option n x r (rows_for g) ∙ repeat_yes n g e in
        refused_twice _ _ g n x (settings_in t rest None) (first_refuses _ _ (first_refuses _ _ (ap refuses react))) e
    with_value n x r false e =
        let a : Rule = built_for (record { name = n; range = Some r }) in
        let react : react_fault (built_rules t) false a (x ∷ []) (held rows pending) ≡ [] = react_is rows pending g st a (x ∷ []) ∙ use_option n x r (rows_for g) ∙ repeat_no n g e in
        let next : used a (x ∷ []) (settled_rows (built_rules t) pending rows) ≡ rows_for (g ++ (n, x) ∷ []) = ap (used a (x ∷ [])) st.rows_are ∙ used_option r n x g e in
        carry _ _ g n x (settings_in t rest None)
        (out_as _ (ending (at (rows_for (g ++ (n, x) ∷ [])) None idle) rest) _ (end_rows (at (rows_for (g ++ (n, x) ∷ [])) None idle) rest) (g ++ (n, x) ∷ []) (settings_in t rest None)
        (ap₂ (λ k rs. or_else (or_else k []) (ending (at rs None idle) rest)) react next)
        (ap (λ rs. end_rows (at rs None idle) rest) next)
        (again (rows_for (g ++ (n, x) ∷ [])) None (g ++ (n, x) ∷ []) (record { settles = refl; rows_are = refl; once = once_more n x g st.once e }) clear))

    -- a flag
    with_flag : (n : Text) (b : Bool) → is_set n g ≡ b → Goes (Some (record { name = n; range = None })) None
    with_flag n true e =
        let a : Rule = built_for (record { name = n; range = None }) in
        let react : react_fault (built_rules t) false a [] (held rows pending) ≡ kind.ArgumentConflict ∷ [] = react_is rows pending g st a [] ∙ use_flag n (rows_for g) ∙ repeat_yes n g e in
        refused_twice _ _ g n (codes "true") (settings_in t rest None) (first_refuses _ _ (first_refuses _ _ (ap refuses react))) e
    with_flag n false e =
        let a : Rule = built_for (record { name = n; range = None }) in
        let x : Text = codes "true" in
        let react : react_fault (built_rules t) false a [] (held rows pending) ≡ [] = react_is rows pending g st a [] ∙ use_flag n (rows_for g) ∙ repeat_no n g e in
        let next : used a [] (settled_rows (built_rules t) pending rows) ≡ rows_for (g ++ (n, x) ∷ []) = ap (used a []) st.rows_are ∙ used_flag n g e in
        carry _ _ g n x (settings_in t rest None)
        (out_as _ (ending (at (rows_for (g ++ (n, x) ∷ [])) None idle) rest) _ (end_rows (at (rows_for (g ++ (n, x) ∷ [])) None idle) rest) (g ++ (n, x) ∷ []) (settings_in t rest None)
        (ap₂ (λ k rs. or_else (or_else k []) (ending (at rs None idle) rest)) react next)
        (ap (λ rs. end_rows (at rs None idle) rest) next)
        (again (rows_for (g ++ (n, x) ∷ [])) None (g ++ (n, x) ∷ []) (record { settles = refl; rows_are = refl; once = once_more n x g st.once e }) clear))

    -- `--name`, and the next word is its text
    then_value : (n : Text) (r : ℕ × ℕ) → option_named t n ≡ Some (record { name = n; range = Some r }) → Goes (Some (record { name = n; range = Some r })) None
    then_value n r e =
        out_as _ (ending (at (rows_for g) (Some (n, [])) (option n)) rest) _ (end_rows (at (rows_for g) (Some (n, [])) (option n)) rest) g (settings_in t rest (Some n))
        (ap₂ (λ k rs. or_else (or_else k []) (ending (at rs (Some (n, [])) (option n)) rest)) st.settles st.rows_are)
        (ap (λ rs. end_rows (at rs (Some (n, [])) (option n)) rest) st.rows_are)
        (waits n r g e st.once clear)

    idle_known : (ko : Option KnownOption) (v : Option Text) → ((k : KnownOption) → ko ≡ Some k → option_named t k.name ≡ Some k) → Goes ko v
    idle_known None v own = refused_stray _ _ g refl
    idle_known (Some k) v own = go k.range v (own k refl)
      where
        go : (r : Option (ℕ × ℕ)) (v : Option Text) → option_named t k.name ≡ Some (record { name = k.name; range = r }) → Goes (Some (record { name = k.name; range = r })) v
        go (Some r) (Some x) e = with_value k.name x r (is_set k.name g) refl
        go (Some r) None e = then_value k.name r e
        go None (Some x) e = refused_stray _ _ g refl
        go None None e = with_flag k.name (is_set k.name g) refl

  -- ---- a word that is not long

  abbrev other_at : Option Text → Held → Waiting → Text → Kinds
  other_at flags h waiting word = or_else (option_map_or (λ f. bundle_fault (built_rules t) false f h) flags [])
      (step_fault (shape_for title (built_rules t)) 1 (short_or_plain (built_rules t) waiting word flags h).0 (short_or_plain (built_rules t) waiting word flags h).1)

  abbrev next_other : Option Text → List Row → Option (Text × List Text) → Waiting → Text → Walk
  next_other flags rows pending waiting word = after_step (built_rules t) word (at rows pending waiting)
      (short_or_plain (built_rules t) waiting word flags (held rows pending)).0 (short_or_plain (built_rules t) waiting word flags (held rows pending)).1

  -- no argument takes it
  is_stray : (rows : List Row) (pending : Option (Text × List Text)) → refuses (step_fault (shape_for title (built_rules t)) 1 (held rows pending) value) ≡ true
  is_stray rows pending = ap (λ o. refuses (option_map_or (λ a. positional_fault (built_rules t) false a (held rows pending)) o (kind.UnknownArgument ∷ []))) (no_place t 1)

  other_refuses : (flags : Option Text) (rows : List Row) (pending : Option (Text × List Text)) (word : Text) → refuses (other_at flags (held rows pending) idle word) ≡ true
  other_refuses None rows pending word = is_stray rows pending
  other_refuses (Some flags) rows pending word = go (no_flag (length flags) flags (held rows pending))
    where
      go : (refuses (bundle_fault (built_rules t) false flags (held rows pending)) ≡ true)
          ⊎ ((bundle_fault (built_rules t) false flags (held rows pending) ≡ []) × (bundle (built_rules t) flags (held rows pending) ≡ (held rows pending, plain)))
          → refuses (other_at (Some flags) (held rows pending) idle word) ≡ true
      go (inl e) = first_refuses _ _ e
      go (inr p) = second_refuses (bundle_fault (built_rules t) false flags (held rows pending)) _
          (ap (λ (m : Held × Outcome). refuses (step_fault (shape_for title (built_rules t)) 1 (after_flag (built_rules t) idle word m.0 m.1).0 (after_flag (built_rules t) idle word m.0 m.1).1)) p.1 ∙ is_stray rows pending)

  -- between two options, where what is pending does not settle, whatever follows is refused
  unsettled : (rows : List Row) (pending : Option (Text × List Text)) → refuses (settle_fault (built_rules t) false (held rows pending)) ≡ true
      → (words : List Text) → no_dashes words ≡ true → refuses (ending (at rows pending idle) words) ≡ true
  unfolding walk_fault
  unsettled rows pending e [] clear = e
  unsettled rows pending e (word ∷ rest) clear = go (bytes_eq word dashes) refl (long_of word) refl
    where
      here : (o : Option (Text × Option Text)) → refuses (word_fault_at o (held rows pending) idle word) ≡ true
      here None = other_refuses (short_of word) rows pending word
      here (Some p) = first_refuses _ _ (ap (λ o. refuses (long_fault (built_rules t) false o p.1 (held rows pending))) (by_long t p.0 (option_named t p.0) refl) ∙ long_refuses (option_named t p.0) p.1 (held rows pending) e)

      go : (b : Bool) → bytes_eq word dashes ≡ b → (o : Option (Text × Option Text)) → long_of word ≡ o → refuses (ending (at rows pending idle) (word ∷ rest)) ≡ true
      go true q o f = absurd (true≢false (sym clear ∙ ap (λ b. not (b || list_any (λ w. bytes_eq w dashes) rest)) q))
      go false q o f = ap refuses (ending_is rows pending idle word rest q) ∙ first_refuses _ _ (here (long_of word))

  -- ---- all words

  hyphen_first : (word : Text) (p : Text × Option Text) → long_of word ≡ Some p → (rest : Text) × (strip_byte 45 word ≡ Some rest)
  hyphen_first word p e = go (strip_byte 45 word) refl
    where
      go : (o : Option Text) → strip_byte 45 word ≡ o → (rest : Text) × (strip_byte 45 word ≡ Some rest)
      go None q = absurd (true≢false (ap is_some (sym e ∙ ap (λ o. option_and_then long_of_rest (option_and_then (strip_byte 45) o)) q)))
      go (Some rest) q = (rest, q)

  hyphen_short : (word flags : Text) → short_of word ≡ Some flags → (rest : Text) × (strip_byte 45 word ≡ Some rest)
  hyphen_short word flags e = go (strip_byte 45 word) refl
    where
      go : (o : Option Text) → strip_byte 45 word ≡ o → (rest : Text) × (strip_byte 45 word ≡ Some rest)
      go None q = absurd (true≢false (ap is_some (sym e ∙ ap (λ o. option_and_then short_of_rest o) q)))
      go (Some rest) q = (rest, q)

  -- a plain word is the text of the option that waits
  option_gets : (rows : List Row) (n word : Text) (r : ℕ × ℕ) → option_named t n ≡ Some (record { name = n; range = Some r })
      → plain_word (built_rules t) (option n) word (held rows (Some (n, []))) ≡ (held rows (Some (n, word ∷ [])), next idle)
  option_gets rows n word r e =
      ap (λ o. ((option_word o n word (held rows (Some (n, [])))).0, next (option_word o n word (held rows (Some (n, [])))).1)) (by_id t n _ e)
      ∙ ap (λ b. (held rows (Some (n, word ∷ [])), next (if nat_lt (if b then 1 else 0) 1 then option n else idle))) (eq_refl n)

  module _ (n : Text) (r : ℕ × ℕ) (g : Settings) (own : option_named t n ≡ Some (record { name = n; range = Some r })) (once : each_once g ≡ true)
      (word : Text) (rest : List Text) (again : Idle rest) (clear : no_dashes rest ≡ true) where
    abbrev Gets : Option Text → Type 0
    Gets flags = Out (or_else (other_at flags (held (rows_for g) (Some (n, []))) (option n) word) (ending (next_other flags (rows_for g) (Some (n, [])) (option n) word) rest))
        (end_rows (next_other flags (rows_for g) (Some (n, [])) (option n) word) rest) g (with_setting n word (settings_in t rest None))

    after_text : (b : Bool) → is_set n g ≡ b
        → Out (ending (at (rows_for g) (Some (n, word ∷ [])) idle) rest) (end_rows (at (rows_for g) (Some (n, word ∷ [])) idle) rest) g (with_setting n word (settings_in t rest None))
    after_text true e = refused_twice _ _ g n word (settings_in t rest None)
        (unsettled (rows_for g) (Some (n, word ∷ [])) (ap refuses (settle_one (rows_for g) n word r own ∙ repeat_yes n g e)) rest clear) e
    after_text false e = carry _ _ g n word (settings_in t rest None)
        (again (rows_for g) (Some (n, word ∷ [])) (g ++ (n, word) ∷ []) (record {
          settles = settle_one (rows_for g) n word r own ∙ repeat_no n g e;
          rows_are = settled_one g n word r own e;
          once = once_more n word g once e;
        }) clear)

    abbrev after_plain : Kinds → Held × Step → Kinds
    after_plain k m = or_else (or_else k (step_fault (shape_for title (built_rules t)) 1 m.0 m.1)) (ending (after_step (built_rules t) word (at (rows_for g) (Some (n, [])) (option n)) m.0 m.1) rest)

    abbrev rows_plain : Held × Step → List Row
    rows_plain m = end_rows (after_step (built_rules t) word (at (rows_for g) (Some (n, [])) (option n)) m.0 m.1) rest

    waiting_other : (flags : Option Text) → short_of word ≡ flags → Gets flags
    waiting_other None e = out_as _ (ending (at (rows_for g) (Some (n, word ∷ [])) idle) rest) _ (end_rows (at (rows_for g) (Some (n, word ∷ [])) idle) rest) g (with_setting n word (settings_in t rest None))
        (ap (after_plain []) (option_gets (rows_for g) n word r own)) (ap rows_plain (option_gets (rows_for g) n word r own))
        (after_text (is_set n g) refl)
    waiting_other (Some flags) e = go (no_flag (length flags) flags (held (rows_for g) (Some (n, []))))
      where
        go : (refuses (bundle_fault (built_rules t) false flags (held (rows_for g) (Some (n, [])))) ≡ true)
            ⊎ ((bundle_fault (built_rules t) false flags (held (rows_for g) (Some (n, []))) ≡ []) × (bundle (built_rules t) flags (held (rows_for g) (Some (n, []))) ≡ (held (rows_for g) (Some (n, [])), plain)))
            → Gets (Some flags)
        go (inl f) =
            let w : (rest : Text) × (strip_byte 45 word ≡ Some rest) = hyphen_short word flags e in
            refused_text _ _ g n word (settings_in t rest None) (first_refuses _ _ (first_refuses _ _ f)) (hyphen_no_fit t n word w.0 r own w.1)
        go (inr p) =
            let is : after_flag (built_rules t) (option n) word (bundle (built_rules t) flags (held (rows_for g) (Some (n, [])))).0 (bundle (built_rules t) flags (held (rows_for g) (Some (n, [])))).1 ≡ (held (rows_for g) (Some (n, word ∷ [])), next idle)
            = ap (λ (m : Held × Outcome). after_flag (built_rules t) (option n) word m.0 m.1) p.1 ∙ option_gets (rows_for g) n word r own in
            out_as _ (ending (at (rows_for g) (Some (n, word ∷ [])) idle) rest) _ (end_rows (at (rows_for g) (Some (n, word ∷ [])) idle) rest) g (with_setting n word (settings_in t rest None))
            (ap₂ after_plain p.0 is) (ap rows_plain is)
            (after_text (is_set n g) refl)

    waiting_long : (p : Text × Option Text) → long_of word ≡ Some p
        → Out (or_else (long_at (arg_by_long (built_rules t) p.0) p.1 (held (rows_for g) (Some (n, []))) (option n) word) (ending (next_long (arg_by_long (built_rules t) p.0) p.1 (rows_for g) (Some (n, [])) (option n) word) rest))
        (end_rows (next_long (arg_by_long (built_rules t) p.0) p.1 (rows_for g) (Some (n, [])) (option n) word) rest) g (with_setting n word (settings_in t rest None))
    waiting_long p e =
        let w : (rest : Text) × (strip_byte 45 word ≡ Some rest) = hyphen_first word p e in
        let refused_long : refuses (long_fault (built_rules t) false (arg_by_long (built_rules t) p.0) p.1 (held (rows_for g) (Some (n, [])))) ≡ true
        = ap (λ o. refuses (long_fault (built_rules t) false o p.1 (held (rows_for g) (Some (n, []))))) (by_long t p.0 (option_named t p.0) refl) ∙ long_refuses (option_named t p.0) p.1 (held (rows_for g) (Some (n, []))) (settle_none (rows_for g) n r own) in
        refused_text _ _ g n word (settings_in t rest None) (first_refuses _ _ (first_refuses _ _ refused_long)) (hyphen_no_fit t n word w.0 r own w.1)

  -- the words come to what the options that they give say
  goes : option_named t [] ≡ None → (words : List Text) → Idle words × Waits words
  unfolding walk_fault
  goes named_all [] = (
    (λ rows pending g st clear. inl (record {
      more = [];
      read_is = refl;
      once = ap each_once (append-nil g) ∙ st.once;
      kinds_are = st.settles;
      rows_are = st.rows_are ∙ ap rows_for (sym (append-nil g));
    })),
    (λ n r g own once clear. refused_stray _ _ g (settle_none (rows_for g) n r own)),
  )
  goes named_all (word ∷ rest) = go (bytes_eq word dashes) refl (goes named_all rest)
    where
      later : (b : Bool) → bytes_eq word dashes ≡ b → no_dashes (word ∷ rest) ≡ true → (b ≡ false) × (no_dashes rest ≡ true)
      later true q clear = absurd (true≢false (sym clear ∙ ap (λ b. not (b || list_any (λ w. bytes_eq w dashes) rest)) q))
      later false q clear = (refl, ap (λ b. not (b || list_any (λ w. bytes_eq w dashes) rest)) (sym q) ∙ clear)

      idle_word : (o : Option (Text × Option Text)) → (rows : List Row) (pending : Option (Text × List Text)) (g : Settings) → Standing rows pending g → Idle rest × Waits rest → no_dashes rest ≡ true
          → Out (or_else (word_fault_at o (held rows pending) idle word) (ending (next_at o rows pending idle word) rest)) (end_rows (next_at o rows pending idle word) rest) g (after_word (from_long t o) (settings_in t rest))
      idle_word None rows pending g st ih clear = refused_stray _ _ g (first_refuses _ _ (other_refuses (short_of word) rows pending word))
      idle_word (Some p) rows pending g st ih clear =
          let found = by_long t p.0 (option_named t p.0) refl in
          out_as _ (or_else (long_at (option_map built_for (option_named t p.0)) p.1 (held rows pending) idle word) (ending (next_long (option_map built_for (option_named t p.0)) p.1 rows pending idle word) rest))
          _ (end_rows (next_long (option_map built_for (option_named t p.0)) p.1 rows pending idle word) rest) g (after_word (from_long t (Some p)) (settings_in t rest))
          (ap (λ o. or_else (long_at o p.1 (held rows pending) idle word) (ending (next_long o p.1 rows pending idle word) rest)) found)
          (ap (λ o. end_rows (next_long o p.1 rows pending idle word) rest) found)
          (idle_known rows pending g st word rest ih.0 ih.1 clear (option_named t p.0) p.1 (λ k e. known_itself t p.0 k e))

      waiting_word : (o : Option (Text × Option Text)) → long_of word ≡ o → (n : Text) (r : ℕ × ℕ) (g : Settings) → option_named t n ≡ Some (record { name = n; range = Some r }) → each_once g ≡ true
          → Idle rest → no_dashes rest ≡ true
          → Out (or_else (word_fault_at o (held (rows_for g) (Some (n, []))) (option n) word) (ending (next_at o (rows_for g) (Some (n, [])) (option n) word) rest))
          (end_rows (next_at o (rows_for g) (Some (n, [])) (option n) word) rest) g (with_setting n word (settings_in t rest None))
      waiting_word None e n r g own once again clear = waiting_other n r g own once word rest again clear (short_of word) refl
      waiting_word (Some p) e n r g own once again clear = waiting_long n r g own once word rest again clear p e

      go : (b : Bool) → bytes_eq word dashes ≡ b → Idle rest × Waits rest → Idle (word ∷ rest) × Waits (word ∷ rest)
      go b q ih = (
        (λ rows pending g st clear.
            let l = later b q clear in
            let e : bytes_eq word dashes ≡ false = q ∙ l.0 in
            subst (λ w. Out (ending (at rows pending idle) (word ∷ rest)) (end_rows (at rows pending idle) (word ∷ rest)) g (after_word w (settings_in t rest))) (sym (word_is t named_all word))
            (out_as _ _ _ _ g (after_word (from_long t (long_of word)) (settings_in t rest)) (ending_is rows pending idle word rest e) (end_rows_are rows pending idle word rest e)
            (idle_word (long_of word) rows pending g st ih l.1))),
        (λ n r g own once clear.
            let l = later b q clear in
            let e : bytes_eq word dashes ≡ false = q ∙ l.0 in
            out_as _ _ _ _ g (with_setting n word (settings_in t rest None)) (ending_is (rows_for g) (Some (n, [])) (option n) word rest e) (end_rows_are (rows_for g) (Some (n, [])) (option n) word rest e)
            (waiting_word (long_of word) refl n r g own once ih.0 l.1)),
      )

  -- from before the first word
  pub reads : option_named t [] ≡ None → (words : List Text) → no_dashes words ≡ true
      → Taken (ending (walk_from nothing_held) words) (end_rows (walk_from nothing_held) words) [] (settings_in t words None)
      ⊎ Refused (ending (walk_from nothing_held) words) [] (settings_in t words None)
  reads named_all words clear = (goes named_all words).0 [] None [] (record { settles = refl; rows_are = refl; once = refl }) clear
