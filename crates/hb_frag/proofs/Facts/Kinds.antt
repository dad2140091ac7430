-- What a page or a leaf is, it is once.
use Rattle.std.proofs.Common.{◌≡◌, ℕ}
use Rattle.hb_frag.specs.declared.leaves.Leaf.TheVariants.{Child, Sibling}
use Rattle.hb_frag.specs.declared.pages.LivePage.{LivePage}
use Rattle.hb_frag.specs.declared.pages.Page.TheVariants.{Live, Free}

pub same_live : (a b : LivePage) → Live a ≡ Live b → a ≡ b
same_live a b is = cc is

pub same_free : (a b : ℕ) → Free a ≡ Free b → a ≡ b
same_free a b is = cc is

pub child_or_sibling : (a b : ℕ) → Sibling a ≡ Child b → ⊥
child_or_sibling a b is = cc is
