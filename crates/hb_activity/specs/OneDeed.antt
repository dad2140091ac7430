-- What the laws and the examples of rows speak of.
use Rattle.std.specs.Prelude.{◌≡◌, ◌≢◌, ℕ, ◌+◌, ◌<◌, ◌≤◌, [], ◌∷◌, Some, None}
use Rattle.hb_frag.specs.declared.pages.LivePage.{LivePage}
use Rattle.hb_ops.specs.declared.operations.Op.{Op}
use Rattle.hb_activity.specs.Sights.{Sight}
use Rattle.hb_ops.specs.Operations.{IsAllowedOn, reads_of}

-- this deed is one of the row, and no other is; or this activity
pub record IsOnly {X : Type 0} (row : X → Type 0) (one : X) : Type 0 where
  pub done : row one
  pub only : (other : X) → row other → other ≡ one

-- The number that a page takes that is made is the one that the file gives: the head of the free chain, or where that has
-- none the one behind the highest page.
pub record NumbersAreGiven (s : Sight) : Type 0 where
  pub chain : s.meta.free ≤ s.meta.high
  pub from_chain : s.meta.free ≢ 0 → (fresh free_after : ℕ) → s.next ≡ Some (fresh, free_after) → fresh ≡ s.meta.free
  pub from_behind : s.meta.free ≡ 0 → (fresh free_after : ℕ) → s.next ≡ Some (fresh, free_after) → (fresh ≡ s.meta.high + 1) × (s.meta.high < s.meta.pages) × (free_after ≡ 0)

-- the operation reads this page alone, and is allowed on it
pub record IsAllowedAlone (s : Sight) (id : ℕ) (page : LivePage) (op : Op) : Type 0 where
  pub reads : reads_of op ≡ id ∷ []
  pub allowed : IsAllowedOn op s.meta (Some page) None None
