-- An image of the disk opens to a file that has the set after a prefix of the order.
use Rattle.hb_steps.proofs.Orders.Names.{inl, inr, ℕ, suc, zero, List, ◌∷◌, All, refl, arith, [], Contains, All-head, All-tail, IsAfterLonger, Machine, settled_count, FileState, last_of, RecordSet, IsPointOf}
use Rattle.hb_steps.proofs.Orders.Prefixes.{files_have_prefixes}
use Rattle.hb_steps.proofs.Facts.LaterPages.{last_sound}
use Rattle.hb_steps.specs.Laws.{HasOnePage, PointsHaveOnePage}
use Rattle.hb_steps.specs.MomentLaws.{ImagesHavePrefixes, ImageHasPrefix}
use Rattle.hb_ops.specs.Sound.{IsSound}
use Rattle.hb_store.specs.Keeps.{OpensToEither}
use Rattle.hb_store.specs.Opening.{OpensTo}

-- the last of the files is one of them
last_among : (durable : FileState) (later : List FileState) → Contains (durable ∷ later) (last_of durable later)
last_among durable [] = (zero, omega arith, refl)
last_among durable (next ∷ later) = let among = last_among next later in (suc among.0, omega (arith, among.1), among.2)

module _ (n : RecordSet) (m : Machine) (bytes : List ℕ) where
  -- the bytes open to one of the files
  opens_to : (s : FileState) → OpensTo bytes s → IsSound s → ((p : List ℕ) → IsPointOf s p → HasOnePage s p) → IsAfterLonger n m s → ImageHasPrefix n m bytes
  opens_to s opens sound pages (count, enough, after) = record {
    image = record { s = s; opens = opens; sound = sound; pages = pages; count = count; enough = enough; inside = after.inside; contents = after.contents };
    answered = after.answered;
  }

  -- the last one is after a prefix, as they all are
  last_after : (durable : FileState) (later : List FileState) → IsAfterLonger n m durable → All (IsAfterLonger n m) later → IsAfterLonger n m (last_of durable later)
  last_after durable [] after afters = after
  last_after durable (next ∷ later) after afters = last_after next later (All-head (IsAfterLonger n m) next later afters) (All-tail (IsAfterLonger n m) next later afters)

  opens_to_either : (durable : FileState) (later : List FileState) → ((s : FileState) → Contains (durable ∷ later) s → (p : List ℕ) → IsPointOf s p → HasOnePage s p) → IsSound durable → All IsSound later
      → IsAfterLonger n m durable → All (IsAfterLonger n m) later → OpensToEither durable later bytes → ImageHasPrefix n m bytes
  opens_to_either durable later pages sound sounds after afters (inl opens) = opens_to durable opens sound (pages durable (zero, omega arith, refl)) after
  opens_to_either durable later pages sound sounds after afters (inr opens) =
      opens_to (last_of durable later) opens (last_sound durable later sound sounds) (pages (last_of durable later) (last_among durable later)) (last_after durable later after afters)

pub images_have_prefixes : PointsHaveOnePage → ImagesHavePrefixes
images_have_prefixes one_page n m files bytes keeps opens =
    let prefixes = files_have_prefixes n m files keeps.sound_file keeps.order_legal keeps.kept.replies_stand keeps.kept.marks_rise keeps.pending_prefix in
    opens_to_either n m bytes files.durable files.later (λ s among p point. one_page m files s p keeps.sound_file among point) keeps.sound_file.durable keeps.sound_file.later
    (settled_count m, omega arith, prefixes.durable) prefixes.later opens
