-- A walk goes on to a page that comes later.
use Rattle.hb_steps.proofs.Facts.Names.{◌≡◌, inl, inr, ℕ, ◌-◌, List, [], ◌∷◌, Option, Some, None, refl, sym, ap, ◌∙◌, subst, option_and_then, All-head, Leaf, Records, Child, LivePage, Live, Mode, Meta, Wanted, Activity, job_mode, session_mode, walk_held, in_mode, walk_next, wanted_of, wanted_page, looked_live, HasSoundFile, Files, Machine, current_file, live_here, leaf_at, FileState, if_live, page_of, IsSound, in_memory, StoreState, live_so, Page}
use Rattle.std.proofs.Common.{All}
use Rattle.std.proofs.lemmas.List.Elements.{All-tail}
use Rattle.hb_frag.specs.declared.leaves.Leaf.TheVariants.{Sibling}
use Rattle.hb_activity.specs.declared.activities.Activity.TheVariants as at
use Rattle.hb_activity.specs.Walks.{walk_point}
use Rattle.hb_activity.specs.Wanting.{named_page, onward_at}
use Rattle.hb_steps.specs.Laws.{WalksGoFurther}
use Rattle.hb_frag.specs.Leaves.{Placed}
use Rattle.hb_ops.specs.Files.{live_page, last_of}
use Rattle.hb_sound.specs.Laws.{StepsLeadFurther}
use Rattle.hb_sound.specs.PointWalks.{LeadsOn}

-- the last file is sound
pub last_sound : (s : FileState) (later : List FileState) → IsSound s → All IsSound later → IsSound (last_of s later)
last_sound s [] sound all = sound
last_sound s (next ∷ later) sound all = last_sound next later (All-head IsSound next later all) (All-tail IsSound next later all)

pub file_sound : (m : Machine) (files : Files) → HasSoundFile m files → IsSound (current_file files)
file_sound m files has = last_sound files.durable files.later has.durable has.later

-- a page in use that is in memory is the file's, where the file shows what is in memory
pub shown_live : (st : StoreState) (s : FileState) → ((id : ℕ) (page : Page) → in_memory st id ≡ Some page → page_of s id ≡ Some page) → (id : ℕ) (page : LivePage) → live_here st id ≡ Some page → live_page s id ≡ Some page
shown_live st s shown id page live = ap if_live (shown id (Live page) (live_so (in_memory st id) page live))

-- what is wanted is the page that the next of a walk is
wants_next : (mode : ℕ → Mode) (next : Option (ℕ × ℕ)) (wanted : Wanted) → in_mode mode next ≡ Some wanted → (level : ℕ) × (next ≡ Some (wanted.page, level))
wants_next mode None wanted is = cc
wants_next mode (Some (page, level)) wanted is =
    let same : wanted_page page level (mode level) ≡ wanted = cc in
    (level, ap (λ (w : Wanted). Some (w.page, level)) same)

-- which the leaf at the point names
names_it : (s : FileState) (p : List ℕ) (held : ℕ) (page : LivePage) (next level : ℕ) (o : Option Placed) → live_page s held ≡ Some page → leaf_at page p ≡ o → option_and_then (λ placed. named_page page.level placed.leaf) o ≡ Some (next, level) → LeadsOn s p held next
names_it s p held page next level None live leaf is = cc
names_it s p held page next level (Some placed) live leaf is = by placed.leaf refl is
  where
    by : (l : Leaf) → placed.leaf ≡ l → named_page page.level l ≡ Some (next, level) → LeadsOn s p held next
    by (Records records) leaf_is named = cc
    by (Child child) leaf_is named =
        let pair : (child, page.level - 1) ≡ (next, level) = cc in
        let same : child ≡ next = ap (λ (q : ℕ × ℕ). q.0) pair in
        inl (record { page = page; area = placed.area; live = live; there = leaf ∙ ap (λ (l : Leaf). Some (record { leaf = l; area = placed.area })) (leaf_is ∙ ap Child same) })
    by (Sibling sibling) leaf_is named =
        let pair : (sibling, page.level) ≡ (next, level) = cc in
        let same : sibling ≡ next = ap (λ (q : ℕ × ℕ). q.0) pair in
        inr (record { page = page; area = placed.area; live = live; there = leaf ∙ ap (λ (l : Leaf). Some (record { leaf = l; area = placed.area })) (leaf_is ∙ ap Sibling same) })

-- a walk that holds a page wants the one that this page names
walk_leads : (s : FileState) (p : List ℕ) (held : ℕ) (page : LivePage) (meta : Meta) (mode : ℕ → Mode) (wanted : Wanted) (looked : Option LivePage) → looked ≡ Some page → live_page s held ≡ Some page → in_mode mode (walk_next (Some p) (Some held) meta looked) ≡ Some wanted → LeadsOn s p held wanted.page
walk_leads s p held page meta mode wanted looked is live wants =
    let next = wants_next mode (walk_next (Some p) (Some held) meta looked) wanted wants in
    let onward : onward_at page p ≡ Some (wanted.page, next.0) = sym (ap (λ (o : Option LivePage). option_and_then (λ page. onward_at page p) o) is) ∙ next.1 in
    names_it s p held page wanted.page next.0 (leaf_at page p) live refl onward

module _ (further : StepsLeadFurther) (m : Machine) (files : Files) (held : ℕ) (page : LivePage) (p : List ℕ) (wanted : Wanted) (keeps : HasSoundFile m files) (live : live_here m.store held ≡ Some page) where
  leads : (activity : Activity) → walk_held activity ≡ Some held → walk_point activity ≡ Some p → wanted_of activity m.store.meta (looked_live m.store activity) ≡ Some wanted → LeadsOn (current_file files) p held wanted.page
  leads (at.SessionWalk line (Some id) rest found) holds goal wants =
      let same : id ≡ held = cc in
      walk_leads (current_file files) p held page m.store.meta (session_mode line.command) wanted (live_here m.store held) live (shown_live m.store (current_file files) keeps.shown held page live)
      (subst (λ (n : ℕ). in_mode (session_mode line.command) (walk_next (Some p) (Some n) m.store.meta (live_here m.store n)) ≡ Some wanted) same
      (subst (λ (o : Option (List ℕ)). in_mode (session_mode line.command) (walk_next o (Some id) m.store.meta (live_here m.store id)) ≡ Some wanted) goal wants))
  leads (at.PosterWalk job (Some id)) holds goal wants =
      let same : id ≡ held = cc in
      walk_leads (current_file files) p held page m.store.meta (job_mode job) wanted (live_here m.store held) live (shown_live m.store (current_file files) keeps.shown held page live)
      (subst (λ (n : ℕ). in_mode (job_mode job) (walk_next (Some p) (Some n) m.store.meta (live_here m.store n)) ≡ Some wanted) same
      (subst (λ (o : Option (List ℕ)). in_mode (job_mode job) (walk_next o (Some id) m.store.meta (live_here m.store id)) ≡ Some wanted) goal wants))
  leads (at.ConsolidatorWalk job (Some id)) holds goal wants =
      let same : id ≡ held = cc in
      walk_leads (current_file files) p held page m.store.meta (job_mode job) wanted (live_here m.store held) live (shown_live m.store (current_file files) keeps.shown held page live)
      (subst (λ (n : ℕ). in_mode (job_mode job) (walk_next (Some p) (Some n) m.store.meta (live_here m.store n)) ≡ Some wanted) same
      (subst (λ (o : Option (List ℕ)). in_mode (job_mode job) (walk_next o (Some id) m.store.meta (live_here m.store id)) ≡ Some wanted) goal wants))
  leads activity holds goal wants = cc

pub walks_go_further : StepsLeadFurther → WalksGoFurther
walks_go_further further m files actor held page p wanted keeps point holds goal live wants =
    let there = shown_live m.store (current_file files) keeps.shown held page live in
    further (current_file files) p held wanted.page page (file_sound m files keeps) point there (leads further m files held page p wanted keeps live (m.activity actor) holds goal wants)
