-- What a pass has done at its deque.
use Rattle.std.specs.Prelude.{List, [], ◌∷◌, ◌++◌, Option, Some, None}
use Rattle.lxr_layout.specs.declared.Place.{Place}
use Rattle.lxr_hints.specs.declared.rule.Journal.{Journal}

-- nothing yet
abbrev pub no_entries : Journal
no_entries = record { put = []; got = [] }

-- it has put these places too
abbrev pub with_put : Journal → List Place → Journal
with_put journal places = record { put = journal.put ++ places; got = journal.got }

-- it has got these places too
abbrev pub with_got : Journal → List Place → Journal
with_got journal places = record { put = journal.put; got = journal.got ++ places }

-- behind a look or a try that gave this place, or none
abbrev pub behind : Journal → Option Place → Journal
behind journal None = journal
behind journal (Some place) = with_got journal (place ∷ [])
