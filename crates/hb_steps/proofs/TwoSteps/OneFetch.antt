-- Two fetches from one machine have the same pages where both have them; and a row that walks on holds a page that its fetch has.
use Rattle.hb_steps.proofs.TwoSteps.Names.{◌≡◌, ◌⊎◌, inl, inr, ℕ, ◌≤◌, Option, Some, None, IfSome, refl, sym, ◌∙◌, subst, ap, same_Some, LivePage, Page, Deed, walk_held, Brings, HoldsPagesOfFile, Files, Machine, live_here, StoreState, in_memory}
use Rattle.hb_activity.specs.declared.activities.Activity.TheVariants as at
use Rattle.hb_steps.proofs.Memory.BroughtPages.{both_there, same_there, told_files}
use Rattle.hb_steps.specs.Machines.{current_file}
use Rattle.hb_ops.specs.Files.{page_of}
use Rattle.hb_store.specs.States.{IsGoodPage}
use Rattle.hb_steps.proofs.Table.NextPlaces.{HasPlace, WalksTo, now}

-- ---- a row that walks on holds the page that it latched, and does nothing to the file

module _ (n : Machine) where
  pub record IsHereUnchanged (deed : Deed) (id : ℕ) : Type 0 where
    pub page : LivePage
    pub live : live_here n.store id ≡ Some page
    pub nothing : deed.op ≡ None

  abbrev pub WalksHere : Deed → Type 0
  WalksHere deed = IfSome (walk_held deed.next) (IsHereUnchanged deed)

  walks_none : (deed : Deed) → walk_held deed.next ≡ None → WalksHere deed
  walks_none deed none = subst (λ (o : Option ℕ). IfSome o (IsHereUnchanged deed)) (sym none) tt

  walks_to : (deed : Deed) → WalksTo n.store deed → WalksHere deed
  walks_to deed to = subst (λ (o : Option ℕ). IfSome o (IsHereUnchanged deed)) (sym to.held) (record { page = to.page; live = to.live; nothing = to.nothing })

pub walks_here : (m : Machine) (actor : ℕ) (fetched : StoreState) (deed : Deed) → HasPlace m actor (now m actor fetched) deed → WalksHere (now m actor fetched) deed
walks_here m actor fetched deed (inl holds) = walks_none _ deed holds.walk
walks_here m actor fetched deed (inr (inl to)) = walks_to _ deed to
walks_here m actor fetched deed (inr (inr (inl full))) = walks_none _ deed (ap (λ (d : Deed). walk_held d.next) full.row.deed_is)
walks_here m actor fetched deed (inr (inr (inr (inl takes)))) = walks_none _ deed (ap (λ (d : Deed). walk_held d.next) takes.row.deed_is)
walks_here m actor fetched deed (inr (inr (inr (inr (inl keeps))))) = walks_none _ deed (by keeps.after)
  where
    by : (deed.next ≡ at.PosterPromote keeps.job keeps.parent) ⊎ (deed.next ≡ at.PosterAgain keeps.job keeps.parent) → walk_held deed.next ≡ None
    by (inl promotes) = ap walk_held promotes
    by (inr again) = ap walk_held again
walks_here m actor fetched deed (inr (inr (inr (inr (inr (inl parts)))))) = walks_none _ deed (ap (λ (d : Deed). walk_held d.next) parts.row.deed_is)
walks_here m actor fetched deed (inr (inr (inr (inr (inr (inr merges)))))) = walks_none _ deed (ap (λ (d : Deed). walk_held d.next) merges.stays.is ∙ merges.stays.after.walk)

-- ---- two fetches from one machine agree, over a disk that tells

module _ (m : Machine) (files : Files) (tells : m.files ≡ Some files) (may : ℕ → Type 0) (fetched : StoreState) (brings : Brings m may fetched) where
  -- what was in memory and is there is what was there
  is_as_it_was : (id : ℕ) (page now : Page) → in_memory m.store id ≡ Some page → in_memory fetched id ≡ Some now → now ≡ page
  is_as_it_was id page now was is = same_Some now page (sym is ∙ same_there m may fetched brings id page now (inl (told_files m files tells)) was is ∙ was)

  pub live_as_it_was : (id : ℕ) (page now : LivePage) → live_here m.store id ≡ Some page → live_here fetched id ≡ Some now → now ≡ page
  live_as_it_was id page now was is = same_Some now page (sym is ∙ both_there m may fetched brings id page now (inl (told_files m files tells)) was is)

  -- it has pages with numbers of the file only, and they keep the rules that speak of a page alone
  pub good_there : (id : ℕ) (page : Page) → HoldsPagesOfFile m → in_memory fetched id ≡ Some page → (1 ≤ id) × IsGoodPage m.store.meta page
  good_there id page inside is = elim (brings.good id page is) [
    | inl was ↦ let good = inside id page was in (good.0, good.2)
    | inr good ↦ (good.0, good.2)
  ]

-- two stores have the same pages where both have one
abbrev pub Agree : StoreState → StoreState → Type 0
Agree f g = (id : ℕ) (a b : Page) → in_memory f id ≡ Some a → in_memory g id ≡ Some b → a ≡ b

module _ (m : Machine) (files : Files) (tells : m.files ≡ Some files) (may might : ℕ → Type 0) (f g : StoreState) (first : Brings m may f) (second : Brings m might g) where
  told_of : (page : Page) (id : ℕ) → IfSome m.files (λ files. page_of (current_file files) id ≡ Some page) → page_of (current_file files) id ≡ Some page
  told_of page id told = subst (λ (o : Option Files). IfSome o (λ files. page_of (current_file files) id ≡ Some page)) tells told

  agree_by : (id : ℕ) (a b : Page) (old : Option Page) → in_memory m.store id ≡ old → in_memory f id ≡ Some a → in_memory g id ≡ Some b → a ≡ b
  agree_by id a b None none one two = same_Some a b (sym (told_of a id (first.told id a none one)) ∙ told_of b id (second.told id b none two))
  agree_by id a b (Some page) was one two = is_as_it_was m files tells may f first id page a was one ∙ sym (is_as_it_was m files tells might g second id page b was two)

  pub fetches_agree : Agree f g
  fetches_agree id a b one two = agree_by id a b (in_memory m.store id) refl one two
