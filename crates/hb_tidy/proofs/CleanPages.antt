-- Pages at which nothing was found, and the whole file where none is left.
use Rattle.std.proofs.Common.{◌≡◌, ◌⊎◌, inl, inr, ℕ, ◌+◌, ◌<◌, ◌≤◌, All, Some, None, sym, subst, arith}
use Rattle.std.specs.List.{Contains}
use Rattle.std.proofs.lemmas.List.Elements.{All-contains}
use Rattle.std.proofs.Math.Nat.{eq-or-lt_of_le}
use Rattle.std.proofs.lemmas.Bool.{cases_lt}
use Rattle.hb_lemmas.proofs.Options.{not_none, one_value}
use Rattle.hb_space.specs.Boxes.{Area}
use Rattle.hb_frag.specs.declared.leaves.Leaf.TheVariants.{Child}
use Rattle.hb_frag.specs.declared.pages.LivePage.{LivePage}
use Rattle.hb_frag.specs.Leaves.{leaves, leaves_of, siblings_of}
use Rattle.hb_layout.specs.declared.meta.Meta.{Meta}
use Rattle.hb_ops.specs.Files.{FileState, live_page}
use Rattle.hb_ops.specs.Merging.{FitsMerge}
use Rattle.hb_ops.specs.Settled.{HasChild, IsMergeable}
use Rattle.hb_sound.proofs.Facts.MergedPages.{joins, named_box}
use Rattle.hb_core.specs.Showing.{RunningCore}
use Rattle.hb_tidy.proofs.KnownFiles.{IsFileOf, none_there}
use Rattle.hb_tidy.proofs.PlacedLeaves.{named_over}
use Rattle.hb_tidy.specs.Finding.{AreTidyUpTo, HasGrown, IsTidy, IsTidyAt, IsTidyBelow}
use Rattle.hb_tidy.specs.Placing.{placed_children}
use Rattle.hb_ops.proofs.Facts.PlacedLaws.{child_listed}

-- ---- three pages that may be merged

-- of pages that are known
pub fits_known : (s : FileState) (parent keep gone : ℕ) (above kept : LivePage) → live_page s parent ≡ Some above → live_page s keep ≡ Some kept → IsMergeable s parent keep gone
    → (going : LivePage) × (live_page s gone ≡ Some going) × FitsMerge s.meta parent keep gone above kept going
fits_known s parent keep gone above kept above_live kept_live may =
    let are = joins s parent keep gone may in (
      are.going,
      are.gone_live,
      subst (λ (p : LivePage). FitsMerge s.meta parent keep gone p kept are.going) (one_value (live_page s parent) are.above above are.above_live above_live)
          (subst (λ (k : LivePage). FitsMerge s.meta parent keep gone are.above k are.going) (one_value (live_page s keep) are.kept kept are.kept_live kept_live) are.fits),
    )

-- the page to go is one to which the page to keep gave a box
pub gone_listed : (s : FileState) (parent keep gone : ℕ) (above kept : LivePage) → live_page s parent ≡ Some above → live_page s keep ≡ Some kept → IsMergeable s parent keep gone → (area : Area) × Contains (siblings_of kept) (gone, area)
gone_listed s parent keep gone above kept above_live kept_live may =
    let fits = fits_known s parent keep gone above kept above_live kept_live may in
    let box = named_box gone (siblings_of kept) fits.2.may.given in
    (box.0, box.2)

-- so three pages may not be merged that don't fit
pub not_mergeable : (c : RunningCore) (s : FileState) (parent keep gone : ℕ) (above kept going : LivePage) → IsFileOf c s → live_page s parent ≡ Some above → live_page s keep ≡ Some kept → live_page s gone ≡ Some going
    → (FitsMerge c.store.meta parent keep gone above kept going → ⊥) → IsMergeable s parent keep gone → ⊥
not_mergeable c s parent keep gone above kept going file above_live kept_live gone_live unfit may =
    let fits = fits_known s parent keep gone above kept above_live kept_live may in
    unfit
    (subst (λ (meta : Meta). FitsMerge meta parent keep gone above kept going) file.meta
    (subst (λ (g : LivePage). FitsMerge s.meta parent keep gone above kept g) (one_value (live_page s gone) fits.0 going fits.1 gone_live) fits.2))

-- ---- a page of a number

-- nothing is found at a page that isn't in use
pub unused_is_tidy : (s : FileState) (id : ℕ) → live_page s id ≡ None → IsTidyAt s id
unused_is_tidy s id none = record {
  posted = λ name page named area live. absurd (not_none (live_page s id) page live none);
  none = λ keep gone may. let are = joins s id keep gone may in not_none (live_page s id) are.above are.above_live none;
}

-- nor at one where nothing is found at any of its child leaves
pub below_is_tidy : (s : FileState) (id : ℕ) (page : LivePage) → live_page s id ≡ Some page → All (IsTidyBelow s id) (placed_children page) → IsTidyAt s id
below_is_tidy s id page live all = record {
  posted = λ name other named area other_live leaf named_live.
      let same = one_value (live_page s id) other page other_live live in
      let listed = child_listed (leaves_of page.frag page.area) name area (subst (λ (p : LivePage). HasChild p name area) same leaf) in
      (All-contains (IsTidyBelow s id) (placed_children page) (name, area) all listed).posted named named_live;
  none = λ keep gone may.
      let are = joins s id keep gone may in
      let same = one_value (live_page s id) are.above page are.above_live live in
      let over = named_over page keep (subst (λ (p : LivePage). Contains (leaves p.frag) (Child keep)) same are.fits.pages.names_kept) in
      (All-contains (IsTidyBelow s id) (placed_children page) (keep, over.0) all over.1).none gone may;
}

-- ---- the whole file

pub tidy_at_none : (c : RunningCore) (s : FileState) → IsFileOf c s → AreTidyUpTo s 0
tidy_at_none c s file id few = unused_is_tidy s id (none_there c s id file (inl (omega (arith, few))))

pub tidy_at_next : (s : FileState) (count : ℕ) → AreTidyUpTo s count → IsTidyAt s (count + 1) → AreTidyUpTo s (count + 1)
tidy_at_next s count so_far here id few = elim (eq-or-lt_of_le few) [
  | inl same ↦ subst (IsTidyAt s) (sym same) here
  | inr less ↦ so_far id (omega (arith, less))
]

pub file_is_tidy : (c : RunningCore) (s : FileState) → IsFileOf c s → HasGrown s → AreTidyUpTo s c.store.meta.high → IsTidy s
file_is_tidy c s file grown all = record {
  settled = record { posted = λ id name page named area live leaf named_live. (at id).posted name page named area live leaf named_live; grown = grown };
  none = λ parent keep gone. (at parent).none keep gone;
}
  where
    at : (id : ℕ) → IsTidyAt s id
    at id = by (cases_lt c.store.meta.high id)
      where
        by : (c.store.meta.high < id) ⊎ (id ≤ c.store.meta.high) → IsTidyAt s id
        by (inl beyond) = unused_is_tidy s id (none_there c s id file (inr beyond))
        by (inr inside) = all id inside
