-- What a call adds to what is kept since the last pause: the name that it made, and the field that it wrote.
use Rattle.std.specs.Prelude.{Bool, true, false, if◌then◌else◌, Option, Some, None, List, [], ◌∷◌, ◌++◌}
use Rattle.std.specs.List.{list_any}
use Rattle.lxr_layout.specs.declared.Name.{Name}
use Rattle.lxr_graph.specs.declared.Reply.{Reply}
use Rattle.lxr_graph.specs.declared.Reply.TheVariants as reply
use Rattle.lxr_graph.specs.Names.{same_name, has}
use Rattle.lxr_model.specs.Moments.{Field, same_field}
use Rattle.lxr_judge_report.specs.declared.position.Written.{Written}

-- a field as the model has it: a name and an index
abbrev pub field_of : Written → Field
field_of w = (record { thread = w.thread; serial = w.serial }, w.index)

-- the reply is that of an operation that wrote a reference
abbrev pub is_write : Reply → Bool
is_write reply.Stored = true
is_write (reply.Swapped old) = true
is_write _ = false

-- the names made, oldest first, with the one that a reply says was made
abbrev pub made_with : List Name → Reply → List Name
made_with ns (reply.New n) = if has ns n then ns else ns ++ n ∷ []
made_with ns _ = ns

-- the fields written, oldest first, with one more where it isn't there yet
abbrev pub joined_field : List Field → Field → List Field
joined_field ws w = if list_any (same_field w) ws then ws else ws ++ w ∷ []

-- the fields written, with the one that a call was about to write, where its reply says that it did
abbrev pub fields_with : List Field → Option Field → Reply → List Field
fields_with ws None r = ws
fields_with ws (Some w) r = if is_write r then joined_field ws w else ws

-- what a register holds newly: what it holds now, unless it held that before
abbrev pub newly_of : Option Name → Option Name → Option Name
newly_of None is = is
newly_of (Some n) None = None
newly_of (Some n) (Some m) = if same_name n m then None else Some m
