-- The page that a child leaf names: over a disk that tells it stands there.
use Rattle.std.proofs.Common.{◌≡◌, ◌+◌, ℕ, Option, None, Some, IfSome, IsSome, Ok, refl, subst}
use Rattle.hb_disk.specs.Model.{DiskModel}
use Rattle.hb_lemmas.proofs.Options.{has_value, not_none, one_value}
use Rattle.hb_space.specs.Boxes.{Area, Within}
use Rattle.hb_frag.specs.declared.pages.LivePage.{LivePage}
use Rattle.hb_ops.specs.Files.{FileState, live_page}
use Rattle.hb_ops.specs.Settled.{HasChild}
use Rattle.hb_core.specs.Showing.{RunningCore}
use Rattle.hb_tidy.proofs.Facts.Joined.{over_known, over_ok}
use Rattle.hb_tidy.proofs.KnownFiles.{IsFileOf, over_file}
use Rattle.hb_tidy.specs.Finding.{HasPage}
use Rattle.hb_tidy.specs.Looking.{LooksOver, NothingOf}

module _ (parent : ℕ) (above : LivePage) (name : ℕ) where
  abbrev Was : Option LivePage → FileState → Type 0
  Was page s = live_page s name ≡ page

  abbrev IsThere : Option LivePage → FileState → Type 0
  IsThere seen s = IsSome seen × (live_page s name ≡ seen)

  child_found : (page : LivePage) (d e : DiskModel) (old new : RunningCore) → LooksOver NothingOf (Ok (Some page)) (λ seen s. live_page s name ≡ seen) d old e new
      → LooksOver (HasPage parent above) (Ok (Some page)) (λ seen s. IsSome seen × (live_page s name ≡ seen)) d old e new
  child_found page d e old new one = over_ok (HasPage parent above) (Some page) (Some page) Was IsThere d e old new (λ s known said. (has_value (Some page) page refl, said)) (over_known (HasPage parent above) (Ok (Some page)) Was d e old new one)

  -- none is missing, nor stands elsewhere
  child_missing : (area : Area) (d e : DiskModel) (old new : RunningCore) → HasChild above name area → LooksOver {T = Option LivePage} NothingOf (Ok None) (λ seen s. live_page s name ≡ seen) d old e new
      → LooksOver {T = Option LivePage} (HasPage parent above) (Ok None) (λ seen s. IsSome seen × (live_page s name ≡ seen)) d old e new
  child_missing area d e old new leaf one =
      over_file {T = Option LivePage} (HasPage parent above) (Ok None) IsThere d e old new
      (over_ok {T = Option LivePage} (λ s. IsFileOf old s × HasPage parent above s) None None Was IsThere d e old new
      (λ s known said. let there = known.0.sound.children parent above name area known.1 leaf in absurd (not_none (live_page s name) there.0 there.1 said))
      (over_known {T = Option LivePage} (λ s. IsFileOf old s × HasPage parent above s) (Ok None) Was d e old new one))

  child_misplaced : (page : LivePage) (area : Area) (d e : DiskModel) (old new : RunningCore) → HasChild above name area → ((page.level + 1 ≡ above.level) × Within area page.area → ⊥) → LooksOver NothingOf (Ok (Some page)) (λ seen s. live_page s name ≡ seen) d old e new
      → LooksOver {T = Option LivePage} (HasPage parent above) (Ok None) (λ seen s. IsSome seen × (live_page s name ≡ seen)) d old e new
  child_misplaced page area d e old new leaf elsewhere one =
      over_file {T = Option LivePage} (HasPage parent above) (Ok None) IsThere d e old new
      (over_ok {U = Option LivePage} (λ s. IsFileOf old s × HasPage parent above s) (Some page) None Was IsThere d e old new
      (λ s known said.
      let there = known.0.sound.children parent above name area known.1 leaf in
      let same = one_value (live_page s name) there.0 page there.1 said in
      absurd (elsewhere (subst (λ (p : LivePage). (p.level + 1 ≡ above.level) × Within area p.area) same (there.2, there.3))))
      (over_known (λ s. IsFileOf old s × HasPage parent above s) (Ok (Some page)) Was d e old new one))

  -- by what was seen of it
  pub child_stands : (area : Area) (seen standing : Option LivePage) (d e : DiskModel) (old new : RunningCore) → HasChild above name area → IfSome standing (λ page. (seen ≡ Some page) × (page.level + 1 ≡ above.level) × Within area page.area)
      → (standing ≡ None → IfSome seen (λ page. (page.level + 1 ≡ above.level) × Within area page.area → ⊥)) → LooksOver NothingOf (Ok seen) (λ seen s. live_page s name ≡ seen) d old e new
      → LooksOver (HasPage parent above) (Ok standing) (λ seen s. IsSome seen × (live_page s name ≡ seen)) d old e new
  child_stands area seen (Some page) d e old new leaf some none one = child_found page d e old new (subst (λ (o : Option LivePage). LooksOver NothingOf (Ok o) Was d old e new) some.0 one)
  child_stands area None None d e old new leaf some none one = child_missing area d e old new leaf one
  child_stands area (Some page) None d e old new leaf some none one = child_misplaced page area d e old new leaf (none refl) one
