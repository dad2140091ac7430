-- One session inserts a record: each step of the chain.
use Rattle.hb_steps.proofs.Chains.Names.{◌≢◌, inl, inr, ℕ, ◌≤◌, List, [], ◌∷◌, Some, refl, arith, Page, Deed, Row, Scene, machine_of, standing, taking, All-from_recursion}
use Rattle.std.proofs.Common.{zero, suc, ◌-◌, ◌^◌, ◌<◌, slice_index}
use Rattle.hb_space.specs.declared.records.Record.{Record}
use Rattle.hb_frag.specs.declared.pages.Page.TheVariants.{Live}
use Rattle.hb_ops.specs.declared.operations.Op.TheVariants.{Put}
use Rattle.hb_set.specs.declared.commands.Reply.TheVariants as replies
use Rattle.hb_steps.specs.declared.outcomes.Outcome.TheVariants.{Moved}
use Rattle.hb_activity.specs.Deeds.{answers_now, takes_effect}
use Rattle.hb_steps.proofs.Chains.BroughtSteps.{MayCome, MayNeedIn, at_hand_met, bringing, met, works_bringing}
use Rattle.hb_steps.proofs.Chains.BuiltSteps.{after_as_it_is, after, has_room, performed, queued, wanted_in}
use Rattle.hb_steps.proofs.Chains.TakenLines.{takes_line}
use Rattle.hb_steps.proofs.Chains.FlushedSteps.{forced_scene, forces}
use Rattle.hb_steps.specs.OneInsert.{OneInsert, before_insert, flat_meta, inserts_a, letter_a, page_of_records}
use Rattle.hb_frag.specs.Grammar.{FitsRecord, HasSpelling}
use Rattle.hb_frag.specs.Leaves.{leaves, leaves_of}
use Rattle.hb_frag.specs.Rules.{BelongsAt, IsInOrder}
use Rattle.hb_ops.specs.Recording.{FitsPut}
use Rattle.hb_ops.specs.Sound.{FitsFile}
use Rattle.hb_lemmas.specs.Numbers.{big_endian}
use Rattle.hb_sound.proofs.Facts.ExampleParts.{in_order}
use Rattle.hb_space.specs.Boxes.{whole_area}
use Rattle.hb_space.specs.Points.{IsPoint}

-- the empty page is well made
empty_fits : FitsFile flat_meta (page_of_records [])
empty_fits = record {
  fits = record { level = omega arith; attributes = refl };
  well_cut = tt;
  filled = record { kinds = All-from_recursion (BelongsAt 0) (leaves (page_of_records []).frag) (refl, tt); light = omega arith; own = λ none. none };
  in_order = All-from_recursion IsInOrder (leaves_of (page_of_records []).frag (page_of_records []).area) (in_order [] _ tt tt, tt);
  normal = tt;
}

abbrev taken : Scene
taken = after_as_it_is 1 (taking inserts_a) [] before_insert

-- the page comes from the disk
abbrev page_1 : List (ℕ × Page)
page_1 = (1, Live (page_of_records [])) ∷ []

two_fits : (v w : ℕ) → v < 2 ^ 64 → w < 2 ^ 64 → IsPoint (v ∷ w ∷ [])
two_fits v w first second = record { some = omega arith; few = omega arith; fits = All-from_recursion (λ (x : ℕ). x < 2 ^ 64) (v ∷ w ∷ []) (first, (second, tt)) }

whole_ordered : (i : ℕ) → i < 2 → slice_index (whole_area 2).lo i ≤ slice_index (whole_area 2).hi i
whole_ordered zero less = omega arith
whole_ordered (suc zero) less = omega arith
whole_ordered (suc (suc i)) less = absurd (omega (arith, less))

page_spelled : HasSpelling (Live (page_of_records []))
unfolding big_endian
page_spelled = record {
  fits = (
    omega arith,
    record { lo_point = two_fits 0 0 (omega arith) (omega arith); hi_point = two_fits (2 ^ 64 - 1) (2 ^ 64 - 1) (omega arith) (omega arith); same = refl; ordered = whole_ordered },
    (omega arith, All-from_recursion (FitsRecord 2) [] tt),
  );
  short = omega arith;
}

page_comes : MayCome taken (MayNeedIn taken 1 (Some (Put 1 letter_a))) (1, Live (page_of_records []))
page_comes = record { needed = inl refl; from_1 = omega arith; to_high = omega arith; good = (page_spelled, empty_fits); told = refl }

abbrev puts : Deed
puts = takes_effect 0 inserts_a replies.Done (Some (Put 1 letter_a)) []

abbrev put : Scene
put = after ((1, Live (page_of_records (letter_a ∷ []))) ∷ []) 1 puts [] (bringing page_1 taken)

abbrev is_forced : Scene
is_forced = forced_scene put

abbrev answered : Scene
answered = after_as_it_is 1 (answers_now 1 replies.Done) [] is_forced

put_fits : FitsPut flat_meta (page_of_records []) letter_a
put_fits = record { made = empty_fits; level = refl; absent = record { records = []; area = _; leaf = refl; keeps = All-from_recursion (λ (r : Record). r.key ≢ letter_a.key) [] tt }; room = omega arith }

put_row : Row (standing taken.at_work 1) (wanted_in taken 1) (met page_1 taken) puts
put_row = (
  page_of_records [],
  at_hand_met page_1 taken (standing taken.at_work 1) _ (page_of_records []) _ refl refl refl refl,
  inr (inr (inl (record {
    absent = record { records = []; area = _; leaf = refl; lack = All-from_recursion (λ (r : Record). r.key ≢ letter_a.key) [] tt };
    room = omega arith;
    deed_is = refl;
  }))),
)

pub one_insert : OneInsert
unfolding big_endian
one_insert = (
  machine_of taken,
  takes_line before_insert 1 inserts_a [] (queued refl refl) tt (refl, refl, refl),
  (
    machine_of put,
    works_bringing page_1 taken put.pages 1 puts [] (page_comes, tt) (refl, tt) (has_room taken 1 (omega arith, omega arith) refl) put_row (queued refl refl) (record { allowed = put_fits; log = refl }) (refl, refl, refl) refl,
    (
      machine_of is_forced,
      inr (omega arith, forces put Moved),
      (
        machine_of answered,
        inl (omega arith, performed is_forced 1 (answers_now 1 replies.Done) [] (queued refl refl) tt (refl, refl, refl)),
        (machine_of answered, (refl, refl), refl),
      ),
    ),
  ),
)
