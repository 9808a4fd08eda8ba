-- What a hinter is, and what it does at its deques, whatever deques they are.
use Rattle.std.specs.Prelude.{◌≡◌, ℕ, suc, ◌<◌, ◌⊎◌, Bool, true, false, Option, Some, None}
use Rattle.lxr_layout.specs.declared.Place.{Place}

-- its deques, and how many pushes on it were answered true
pub record Hinting (D : Type 0) : Type 0 where
  pub deques : D
  pub pushes : ℕ

-- a push that was answered true has put its place, and one that was answered false has changed no deque
abbrev pub IsPut : {D : Type 0} → (D → Place → D → Type 0) → D → Place → Bool → D → Type 0
IsPut put before place true after = put before place after
IsPut put before place false after = after ≡ before

-- `stolen` tells of a try at the other of a number what it gave
module _ {D : Type 0} (stolen : D → ℕ → Option Place → D → Type 0) where
  -- a try at each of the first so many others gave none
  pub data NoneGiven (before : D) : ℕ → D → Type 0 where
    no_try : NoneGiven before 0 before
    next : {number : ℕ} {between after : D} → NoneGiven before number between → stolen between number None after → NoneGiven before (suc number) after

  -- a try at the other of this number gave the place, and a try at each before it none
  pub record IsStolen (others : ℕ) (before : D) (place : Place) (after : D) : Type 0 where
    pub number : ℕ
    pub within : number < others
    pub between : D
    pub none : NoneGiven before number between
    pub given : stolen between number (Some place) after

  -- so many others are tried, each once, up to the first that gives a place
  abbrev pub TriesEach : ℕ → D → Option Place → D → Type 0
  TriesEach others before None after = NoneGiven before others after
  TriesEach others before (Some place) after = IsStolen others before place after

-- `popped` tells of a look at the own deque what it gave
module _ {D : Type 0} (popped : D → Option Place → D → Type 0) (stolen : D → ℕ → Option Place → D → Type 0) where
  -- its own deque was looked at and found empty, and then the others were tried
  pub record IsFromOthers (others : ℕ) (before : D) (answer : Option Place) (after : D) : Type 0 where
    pub between : D
    pub empty : popped before None between
    pub tries : TriesEach stolen others between answer after

  -- a place is the first one of its own deque or, where that was found empty, one that another gave; none is the answer only where its own
  -- deque was found empty, and a try at each other gave none
  abbrev pub IsTaken : ℕ → D → Option Place → D → Type 0
  IsTaken others before None after = IsFromOthers others before None after
  IsTaken others before (Some place) after = popped before (Some place) after ⊎ IsFromOthers others before (Some place) after
