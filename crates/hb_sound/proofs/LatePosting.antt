-- The posting that is late may be done, and what it makes of its page.
use Rattle.std.proofs.Common.{◌≡◌, ◌^◌, ℕ, zero, suc, ◌<◌, ◌≤◌, [], ◌∷◌, slice_index, Some, refl, arith}
use Rattle.hb_space.specs.Boxes.{IsArea, Meets}
use Rattle.hb_ops.specs.Files.{live_page}
use Rattle.hb_ops.specs.Operations.{effect_of}
use Rattle.hb_ops.specs.Posting.{FitsPost, GaveAway}
use Rattle.hb_sound.specs.LateFile.{late_aside, late_aside_posted, late_file, late_highest, late_meta, late_posting}
use Rattle.hb_sound.specs.LawsOfOperations.{MayBeDone}
use Rattle.hb_frag.specs.declared.paths.Side.TheVariants.{Right}
use Rattle.hb_space.proofs.Facts.Intervals.{interval, top}
use Rattle.std.proofs.lemmas.List.Elements.{All-from_recursion}
use Rattle.hb_sound.proofs.LateFile.{late_is_sound}

given_box : IsArea (interval 600 799)
given_box = record {
  lo_point = record { some = omega arith; few = omega arith; fits = All-from_recursion (λ (x : ℕ). x < 2 ^ 64) (600 ∷ []) (omega arith, tt) };
  hi_point = record { some = omega arith; few = omega arith; fits = All-from_recursion (λ (x : ℕ). x < 2 ^ 64) (799 ∷ []) (omega arith, tt) };
  same = refl;
  ordered = rises;
}
  where
    rises : (i : ℕ) → i < 1 → slice_index (600 ∷ []) i ≤ slice_index (799 ∷ []) i
    rises zero lt = omega arith
    rises (suc i) lt = absurd (omega (arith, lt))

-- the leaf from 400 on meets the box from 600 to 799
leaf_meets : Meets (interval 400 top) (interval 600 799)
leaf_meets zero lt = omega arith
leaf_meets (suc i) lt = absurd (omega (arith, lt))

late_fits : FitsPost late_meta late_aside (Right ∷ []) 8 (interval 600 799)
late_fits = record {
  made = late_is_sound.well_made 4 late_aside refl;
  above = omega arith;
  outer = 7;
  box = interval 400 top;
  leaf = refl;
  other = λ e. absurd (omega (arith, e));
  meets = leaf_meets;
  room = omega arith;
}

late_gave : GaveAway late_file 4 (Right ∷ []) 8 (interval 600 799)
late_gave = record {
  page = late_aside;
  live = refl;
  outer = 7;
  box = interval 400 top;
  leaf = refl;
  child = late_highest;
  named = refl;
  gave = (zero, omega arith, refl);
}

pub late_may_be_posted : MayBeDone late_file late_posting
late_may_be_posted = record {
  sound = late_is_sound;
  some_attributes = omega arith;
  few_attributes = omega arith;
  has = (given_box, refl);
  allowed = late_fits;
  licensed = late_gave;
}

pub late_is_posted : live_page (effect_of late_file late_posting) 4 ≡ Some late_aside_posted
late_is_posted = refl
