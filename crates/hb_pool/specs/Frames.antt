-- What a pool shows of a page that is in memory, and what a call makes of it.
use Rattle.std.specs.Prelude.{ℕ, ◌+◌, ◌-◌, ◌==◌, Bool, true, false, not, ◌||◌, IsTrue}

-- `B` is what is told of the page's bytes: the bytes themselves, or nothing where the order of use alone counts.
pub record Frame (B : Type 0) : Type 0 where
  -- the page's number
  pub id : ℕ
  pub bytes : B
  -- whether they are to be written to the page's place still
  pub dirty : Bool
  -- how many times it is pinned
  pub pins : ℕ

-- a frame of which no bytes are told, and that of a frame
abbrev pub Use : Type 0
Use = Frame (Unit {0})

abbrev pub use_of : {B : Type 0} → Frame B → Use
use_of f = record { id = f.id; bytes = tt {0}; dirty = f.dirty; pins = f.pins }

-- it is the page of that number
abbrev pub has_id : {B : Type 0} → ℕ → Frame B → Bool
has_id id f = f.id == id

-- it is dirty or pinned
abbrev pub must_stay : {B : Type 0} → Frame B → Bool
must_stay f = f.dirty || not (f.pins == 0)

abbrev pub IsStaying : {B : Type 0} → Frame B → Type 0
IsStaying f = IsTrue (must_stay f)

-- it is clean and not pinned
abbrev pub may_go : {B : Type 0} → Frame B → Bool
may_go f = not (must_stay f)

-- with one pin more
abbrev pub pinned : {B : Type 0} → Frame B → Frame B
pinned f = record f { pins = f.pins + 1 }

-- with one pin less
abbrev pub unpinned : {B : Type 0} → Frame B → Frame B
unpinned f = record f { pins = f.pins - 1 }

-- with other bytes, and so dirty
abbrev pub filled : {B : Type 0} → B → Frame B → Frame B
filled bytes f = record f { bytes = bytes; dirty = true }

-- no longer dirty
abbrev pub clean : {B : Type 0} → Frame B → Frame B
clean f = record f { dirty = false }

-- a page that came into memory
abbrev pub fresh : {B : Type 0} → ℕ → B → Bool → Frame B
fresh id bytes dirty = record { id = id; bytes = bytes; dirty = dirty; pins = 0 }
