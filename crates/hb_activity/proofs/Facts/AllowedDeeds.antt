-- That a row's operation is allowed: the parts that rows have in common.
use Rattle.std.proofs.Common.{◌≡◌, ℕ, ◌<◌, List, Some, None, sym, ap, ◌∙◌, subst, arith}
use Rattle.std.proofs.lemmas.Option.{none-some, same_Some}
use Rattle.hb_frag.specs.declared.pages.LivePage.{LivePage}
use Rattle.hb_layout.specs.declared.meta.Meta.{Meta}
use Rattle.hb_frag.specs.Leaves.{Placed, leaf_at, leaves_of}
use Rattle.hb_frag.specs.Rules.{BelongsAt}
use Rattle.hb_ops.specs.declared.operations.Op.{Op}
use Rattle.hb_activity.specs.Deeds.{Deed}
use Rattle.hb_activity.specs.OneDeed.{NumbersAreGiven}
use Rattle.hb_activity.specs.Sights.{Sight}
use Rattle.hb_ops.specs.Allocating.{Allocates}
use Rattle.hb_ops.specs.Sound.{FitsFile}
use Rattle.hb_ops.proofs.Facts.Opened.{first_has}
use Rattle.hb_frag.proofs.Facts.Tiles.{placed_all}

-- ---- the leaf at a point belongs at the level of its page

pub kind_at : (meta : Meta) (page : LivePage) (p : List ℕ) (l : Placed) → FitsFile meta page → leaf_at page p ≡ Some l → BelongsAt page.level l.leaf
kind_at meta page p l made there = first_has (λ (l : Placed). BelongsAt page.level l.leaf) p (leaves_of page.frag page.area) l there (placed_all (BelongsAt page.level) page.frag page.area made.filled.kinds)

-- ---- a number is taken for a page that is made

pub allocates : (s : Sight) (fresh free_after : ℕ) → NumbersAreGiven s → s.meta.live < s.meta.pages → s.next ≡ Some (fresh, free_after) → Allocates s.meta fresh free_after
allocates s fresh free_after given free next = record {
  room = free;
  from_chain = λ some. let head = given.from_chain some fresh free_after next in (head, omega (arith, head, given.chain));
  from_behind = λ none. let behind = given.from_behind none fresh free_after next in (behind.0, omega (arith, behind.0, behind.1), behind.2);
}

-- ---- what is shown of the operation of a deed

abbrev pub Shows : (Op → Type 0) → Deed → Type 0
Shows P deed = (op : Op) → deed.op ≡ Some op → P op

pub none_shown : (P : Op → Type 0) (deed other : Deed) → deed ≡ other → other.op ≡ None → Shows P deed
none_shown P deed other is none op some = absurd (none-some op (sym none ∙ sym (ap (λ (d : Deed). d.op) is) ∙ some))

pub one_shown : (P : Op → Type 0) (deed other : Deed) (op : Op) → deed ≡ other → other.op ≡ Some op → P op → Shows P deed
one_shown P deed other op is some has another said = subst P (same_Some op another (sym some ∙ sym (ap (λ (d : Deed). d.op) is) ∙ said)) has
