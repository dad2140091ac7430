-- The pages of a file after a merge: the three that change, and all others as before.
use Rattle.std.proofs.Common.{◌≡◌, ◌≢◌, ℕ, zero, ◌+◌, inl, inr, Bool, cond, List, [], ◌∷◌, length, Option, Some, None, IsSome, refl, sym, ap, subst, ◌∙◌, arith, eq-eqb, ne_eqb}
use Rattle.std.specs.List.{Contains}
use Rattle.std.proofs.lemmas.Bool.{cases_eq}
use Rattle.std.proofs.lemmas.List.Elements.{Contains-append_right}
use Rattle.hb_space.specs.Boxes.{Area}
use Rattle.hb_frag.specs.declared.pages.LivePage.{LivePage}
use Rattle.hb_frag.specs.declared.pages.Page.{Page}
use Rattle.hb_frag.specs.declared.pages.Page.TheVariants.{Live, Free}
use Rattle.hb_frag.specs.Leaves.{first_named, siblings_of}
use Rattle.hb_ops.specs.declared.operations.Op.TheVariants.{Merge}
use Rattle.hb_ops.specs.Files.{FileState, if_live, live_page, page_at, page_of}
use Rattle.hb_ops.specs.Merging.{FitsMerge, kept_page, parent_page, released}
use Rattle.hb_ops.specs.Operations.{IsAllowed, IsAllowedOn, change_of, effect_of, with_changed_pages, with_page}
use Rattle.hb_ops.specs.Sound.{SiblingsMatch, count_live, count_name, times_named}
use Rattle.hb_sound.specs.LawsOfMerges.{ChangesThree, MergesChangeThree}
use Rattle.hb_ops.proofs.Facts.PageLists.{HasInstead, put_instead}
use Rattle.hb_ops.proofs.Facts.PageNumberLaws.{live_so}
use Rattle.hb_lemmas.proofs.Options.{one_value}

-- a merge that is allowed has its three pages in use
pub record Joins (s : FileState) (parent keep gone : ℕ) : Type 0 where
  pub above : LivePage
  pub kept : LivePage
  pub going : LivePage
  pub above_live : live_page s parent ≡ Some above
  pub kept_live : live_page s keep ≡ Some kept
  pub gone_live : live_page s gone ≡ Some going
  pub fits : FitsMerge s.meta parent keep gone above kept going

joins_on : (s : FileState) (parent keep gone : ℕ) (a b c : Option LivePage) → live_page s parent ≡ a → live_page s keep ≡ b → live_page s gone ≡ c
    → IsAllowedOn (Merge parent keep gone) s.meta a b c → Joins s parent keep gone
joins_on s parent keep gone None b c ea eb ec h = absurd h
joins_on s parent keep gone (Some above) None c ea eb ec h = absurd h
joins_on s parent keep gone (Some above) (Some kept) None ea eb ec h = absurd h
joins_on s parent keep gone (Some above) (Some kept) (Some going) ea eb ec h =
    record { above = above; kept = kept; going = going; above_live = ea; kept_live = eb; gone_live = ec; fits = h }

pub joins : (s : FileState) (parent keep gone : ℕ) → IsAllowed s (Merge parent keep gone) → Joins s parent keep gone
joins s parent keep gone allowed = joins_on s parent keep gone (live_page s parent) (live_page s keep) (live_page s gone) refl refl refl allowed

-- the box that is found under a name is one of the boxes with that name
pub named_box : (id : ℕ) (ss : List (ℕ × Area)) → IsSome (first_named id ss) → (a : Area) × (first_named id ss ≡ Some a) × Contains ss (id, a)
named_box id [] h = absurd (let no : ⊥ = cc in no)
named_box id (x ∷ xs) h = elim (cases_eq x.0 id) [
  | inl is ↦ (x.1, ap (λ (b : Bool). cond b (Some x.1) (first_named id xs)) (eq-eqb x.0 id is), (zero, omega arith, ap (λ (n : ℕ). (n, x.1)) is))
  | inr ne ↦
      let same : first_named id (x ∷ xs) ≡ first_named id xs = ap (λ (b : Bool). cond b (Some x.1) (first_named id xs)) (ne_eqb x.0 id ne) in
      let rest = named_box id xs (subst (λ (o : Option Area). IsSome o) same h) in
      (rest.0, same ∙ rest.1, Contains-append_right (x ∷ []) xs (id, rest.0) rest.2)
]

-- the pages that change, as they stand in the file afterwards, and what the file counts then
pub record IsJoined (s t : FileState) (parent keep gone : ℕ) (above kept going new_above new_kept : LivePage) : Type 0 where
  pub parent_now : page_of t parent ≡ Some (Live new_above)
  pub keep_now : page_of t keep ≡ Some (Live new_kept)
  pub gone_now : page_of t gone ≡ Some (Free s.meta.free)
  pub others : (id : ℕ) → id ≢ parent → id ≢ keep → id ≢ gone → page_of t id ≡ page_of s id
  pub numbered : length t.pages ≡ length s.pages
  pub counted : count_live t.pages + 1 ≡ count_live s.pages
  pub times : (name : ℕ) → times_named name t.pages + (count_name name (siblings_of above) + count_name name (siblings_of kept) + count_name name (siblings_of going))
      ≡ times_named name s.pages + (count_name name (siblings_of new_above) + count_name name (siblings_of new_kept))

module _ (s : FileState) (parent keep gone : ℕ) (may : Joins s parent keep gone) where
  abbrev pub new_above : LivePage
  new_above = parent_page keep gone may.above

  abbrev pub new_kept : LivePage
  new_kept = kept_page gone may.kept may.going

  abbrev with_parent : List Page
  with_parent = with_page parent (Live new_above) s.pages

  abbrev with_kept : List Page
  with_kept = with_page keep (Live new_kept) with_parent

  abbrev pub after : FileState
  after = record { meta = released s.meta gone; pages = with_page gone (Free s.meta.free) with_kept }

  put_parent : HasInstead s.pages parent (Live may.above) (Live new_above) with_parent × (length with_parent ≡ length s.pages)
  put_parent = put_instead s.pages parent (Live may.above) (Live new_above) (live_so (page_of s parent) may.above may.above_live)

  was_kept : page_at with_parent keep ≡ Some (Live may.kept)
  was_kept = put_parent.0.others keep (λ e. may.fits.pages.others.0 (sym e)) ∙ live_so (page_of s keep) may.kept may.kept_live

  put_kept : HasInstead with_parent keep (Live may.kept) (Live new_kept) with_kept × (length with_kept ≡ length with_parent)
  put_kept = put_instead with_parent keep (Live may.kept) (Live new_kept) was_kept

  was_going : page_at with_kept gone ≡ Some (Live may.going)
  was_going =
      put_kept.0.others gone (λ e. may.fits.pages.two (sym e)) ∙ put_parent.0.others gone (λ e. may.fits.pages.others.1 (sym e))
      ∙ live_so (page_of s gone) may.going may.gone_live

  put_free : HasInstead with_kept gone (Live may.going) (Free s.meta.free) after.pages × (length after.pages ≡ length with_kept)
  put_free = put_instead with_kept gone (Live may.going) (Free s.meta.free) was_going

  pub is_joined : IsJoined s after parent keep gone may.above may.kept may.going new_above new_kept
  is_joined = record {
    parent_now = put_free.0.others parent may.fits.pages.others.1 ∙ put_kept.0.others parent may.fits.pages.others.0 ∙ put_parent.0.there;
    keep_now = put_free.0.others keep may.fits.pages.two ∙ put_kept.0.there;
    gone_now = put_free.0.there;
    others = λ id ne_parent ne_keep ne_gone. put_free.0.others id ne_gone ∙ put_kept.0.others id ne_keep ∙ put_parent.0.others id ne_parent;
    numbered = put_free.1 ∙ put_kept.1 ∙ put_parent.1;
    counted = let one = put_parent.0.counted in let two = put_kept.0.counted in let three = put_free.0.counted in omega (arith, one, two, three);
    times = λ name. let one = put_parent.0.times name in let two = put_kept.0.times name in let three = put_free.0.times name in omega (arith, one, two, three);
  }

  -- the file after the operation is that one
  abbrev merge_file : Option LivePage → Option LivePage → Option LivePage → FileState
  merge_file a b c = let change = change_of (Merge parent keep gone) s.meta a b c in record { meta = change.meta; pages = with_changed_pages change.pages s.pages }

  pub merged_so : effect_of s (Merge parent keep gone) ≡ after
  merged_so = λ i. merge_file (may.above_live i) (may.kept_live i) (may.gone_live i)

  -- the page to keep has a leaf to the page to go with exactly that page's box
  pub gone_box : SiblingsMatch s → (first_named gone (siblings_of may.kept) ≡ Some may.going.area) × Contains (siblings_of may.kept) (gone, may.going.area)
  gone_box match =
      let found = named_box gone (siblings_of may.kept) may.fits.may.given in
      let named = match keep may.kept gone found.0 may.kept_live found.2 in
      let same : found.0 ≡ may.going.area = sym named.3 ∙ ap (λ (q : LivePage). q.area) (one_value (live_page s gone) named.0 may.going named.1 may.gone_live) in
      (found.1 ∙ ap (λ (a : Area). Some a) same, subst (λ (a : Area). Contains (siblings_of may.kept) (gone, a)) same found.2)

  pub changes_three : SiblingsMatch s → ChangesThree s (effect_of s (Merge parent keep gone)) parent keep gone
  changes_three match = subst (λ (t : FileState). ChangesThree s t parent keep gone) (sym merged_so) (record {
    above = may.above;
    kept = may.kept;
    going = may.going;
    above_live = may.above_live;
    kept_live = may.kept_live;
    gone_live = may.gone_live;
    parent_now = ap if_live is_joined.parent_now;
    keep_now = ap if_live is_joined.keep_now;
    gone_now = is_joined.gone_now;
    box = (gone_box match).0;
    others = is_joined.others;
  })

pub merges_change_three : MergesChangeThree
merges_change_three s parent keep gone may = changes_three s parent keep gone (joins s parent keep gone may.allowed) may.sound.siblings
