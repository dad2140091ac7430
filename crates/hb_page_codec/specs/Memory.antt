-- Which bytes may want memory to be read as a page.
use Rattle.std.specs.Prelude.{◌≡◌, ℕ, zero, suc, List, [], ◌∷◌, ◌++◌, length, Result, Ok, Err}
use Rattle.hb_space.specs.Boxes.{Area, IsArea}
use Rattle.hb_space.specs.declared.form.TheConstants.{PAGE}
use Rattle.hb_frag.specs.Grammar.{point_bytes}
use Rattle.hb_page_codec.specs.declared.errors.PageError.{PageError}
use Rattle.hb_page_codec.specs.declared.errors.PageError.TheVariants as errors

-- memory was wanted only where this holds
abbrev pub Wants : PageError → Type 0 → Type 0
Wants errors.BadPage p = Unit {0}
Wants errors.NoMemory p = p

abbrev pub WantsOnly : {X : Type 0} → Result X PageError → Type 0 → Type 0
WantsOnly (Ok x) p = Unit {0}
WantsOnly (Err e) p = Wants e p

-- two bytes that are no count of 0
abbrev pub IsSomeCount : List ℕ → Type 0
IsSomeCount (zero ∷ zero ∷ rest) = ⊥
IsSomeCount _ = Unit {0}

-- a cut stands at the front, or a leaf of records whose count isn't 0
abbrev pub IsCutOrRecords : List ℕ → Type 0
IsCutOrRecords [] = ⊥
IsCutOrRecords (zero ∷ rest) = Unit {0}
IsCutOrRecords (suc zero ∷ rest) = IsSomeCount rest
IsCutOrRecords (suc (suc tag) ∷ rest) = ⊥

-- The bytes begin as those of a live page, whose root is a cut or a leaf with records.
pub record BeginsWithMany (bytes : List ℕ) : Type 0 where
  pub level : ℕ
  pub area : Area
  pub rest : List ℕ
  pub is_area : IsArea area
  pub front : bytes ≡ 1 ∷ level ∷ length area.lo ∷ 0 ∷ point_bytes area.lo ++ point_bytes area.hi ++ rest
  pub root : IsCutOrRecords rest

-- the same, and they are as many as a page has
abbrev pub PageMayWantMemory : List ℕ → Type 0
PageMayWantMemory bytes = (length bytes ≡ PAGE) × BeginsWithMany bytes
