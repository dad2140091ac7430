-- What the calls that begin a turn leave of a disk.
use Rattle.std.proofs.Common.{◌≡◌, ℕ, ◌+◌, ◌≤◌, List, Option, Result, Ok, Err, IsErr, IsSome, OnOk, is_some, inl, subst, ap, ◌∙◌, arith}
use Rattle.std.proofs.lemmas.Result.{on_ok_weaker}
use Rattle.hb_disk.specs.Model.{DiskModel, IsDisk, Torn}
use Rattle.hb_disk.specs.Calls.{Syncs, Then}
use Rattle.hb_disk.specs.Runs.{Rewrites}
use Rattle.hb_disk.proofs.Facts.RewriteLaws.{Becomes-tells, Rewrites-as, Rewrites-sync, Rewrites-then, Rewrites-torn, Rewrites-weaker}
use Rattle.hb_disk.proofs.Facts.TornLaws.{Torn-itself}
use Rattle.hb_disk.specs.Calls.{Leaves}
use Rattle.hb_disk.proofs.Facts.RunLaws.{Leaves-weaker}
use Rattle.hb_frag.specs.declared.pages.Page.{Page}
use Rattle.hb_layout.specs.Offsets.{log_start, slot_offset}
use Rattle.hb_layout.specs.declared.meta.Meta.{Meta}
use Rattle.hb_ops.specs.Files.{FileState}
use Rattle.hb_super.specs.Superblocks.{next_turn}
use Rattle.hb_lemmas.proofs.Options.{some_value}
use Rattle.hb_store.proofs.Facts.PlaceWrites.{ok_tick}
use Rattle.hb_store.specs.Switching.{TornSwitch}
use Rattle.hb_store.specs.Turning.{MayTurn, OpensByEither, StillOpens}

-- what a success gives for each two values, or under a condition
pub on_ok_each : {T E X Y : Type 0} (r : Result T E) (P : X → Y → Type 0) → ((x : X) (y : Y) → OnOk r (P x y)) → OnOk r ((x : X) (y : Y) → P x y)
on_ok_each (Ok v) P f = f
on_ok_each (Err e) P f = tt

pub on_ok_if : {T E : Type 0} (r : Result T E) (P Q : Type 0) → (P → OnOk r Q) → OnOk r (P → Q)
on_ok_if (Ok v) P Q f = f
on_ok_if (Err e) P Q f = tt

-- the turn before is one too
pub turn_before : (d : DiskModel) → IsDisk d → (turn : ℕ) (said meta : Meta) (touched : ℕ → Option Page) (s : FileState) → MayTurn d turn said meta touched s → turn ≤ 3
turn_before d is_disk turn said meta touched s may =
    let b = some_value d.told may.placed.here.told in
    (may.placed.here.images b.0 (is_disk.as_read b.0 b.1)).by.newest.there.legal.turn_fits

-- what opens still opens by one of the two
pub still_either : (d e : DiskModel) (turn : ℕ) (said meta : Meta) (touched : ℕ → Option Page) (s : FileState) → Leaves d e (StillOpens turn said meta touched s) → Leaves d e (OpensByEither turn said meta touched s)
still_either d e turn said meta touched s left = Leaves-weaker d e (StillOpens turn said meta touched s) (OpensByEither turn said meta touched s) (λ c opens. inl opens) left

ok_of : {T E : Type 0} (r : Result T E) (v : T) (P : Type 0) → r ≡ Ok v → OnOk r P → P
ok_of (Ok w) v P ok p = p
ok_of (Err e) v P ok p = cc ok

-- nine ticks: one of the sync, two of the area and six of the superblock
pub nine_ticks : {T E U F V W : Type 0} (q : Result T E) (r : Result U F) (s : Result V W) (v : T) (w : U) (old mid late new : DiskModel) → q ≡ Ok v → r ≡ Ok w → IsDisk old → Syncs q old mid
    → (area len : ℕ) → Rewrites (Torn area len) 2 r mid late → (IsSome mid.told → OnOk r (late.clock ≡ mid.clock + 2)) → (IsSome late.told → OnOk s (new.clock ≡ late.clock + 6))
    → IsSome old.told → OnOk s (new.clock ≡ old.clock + 9)
nine_ticks q r s v w old mid late new is_ok are_ok is_old syncs area len run second third tells =
    let here : IsSome mid.told = ap is_some syncs.same ∙ tells in
    let one = ok_tick q v old mid is_ok is_old tells syncs.ticks in
    let two = ok_of r w (late.clock ≡ mid.clock + 2) are_ok (second here) in
    on_ok_weaker {P = new.clock ≡ late.clock + 6} {Q = new.clock ≡ old.clock + 9} s (λ six. omega (arith, one, two, six)) (third (Becomes-tells (Torn area len) mid late run.became here))

module _ (before next : ℕ) (meta : Meta) (is : next ≡ next_turn before) (area : ℕ) (area_is : area ≡ log_start next meta) where
  as_switch : (b c e : List ℕ) → Torn area meta.log b c → Torn (slot_offset next) 41 c e → TornSwitch before meta b e
  as_switch b c e first second =
      let A : ℕ → Type 0 = λ n. Torn n meta.log b c in
      let L : ℕ → Type 0 = λ n. Torn (log_start n meta) meta.log b c in
      let S : ℕ → Type 0 = λ n. Torn (slot_offset n) 41 c e in
      record { between = c; area = subst L is (subst A area_is first); place = subst S is second }

  -- a run that ended early, in the area at most
  pub switch_failed : {T E U F : Type 0} (r : Result T E) (q : Result U F) (k : ℕ) (old new : DiskModel) → k ≤ 9 → IsErr r → IsErr q → Rewrites (Torn area meta.log) k r old new → Rewrites (TornSwitch before meta) 9 q old new
  switch_failed r q k old new few r_failed q_failed run =
      Rewrites-as r q (TornSwitch before meta) k 9 old new (λ f. q_failed) (λ f. r_failed) few
      (Rewrites-weaker r (Torn area meta.log) (TornSwitch before meta) k old new (λ b c torn. as_switch b c c torn (Torn-itself (slot_offset next) 41 c torn.bytes)) run)

  -- the sync, and the zeroed area
  pub area_zeroed : {T E U F : Type 0} (q : Result T E) (r : Result U F) (old mid new : DiskModel) (v : T) → q ≡ Ok v → IsDisk old → Syncs q old mid → Rewrites (Torn area meta.log) 2 r mid new → Rewrites (Torn area meta.log) 3 r old new
  area_zeroed q r old mid new v ok is_old syncs run = Rewrites-torn q r area meta.log 1 2 old mid new v ok (Rewrites-sync q area meta.log old mid is_old syncs) run

  -- and the superblock
  pub switch_wrote : {T E U F : Type 0} (r : Result T E) (q : Result U F) (old mid new : DiskModel) (v : T) → r ≡ Ok v → Rewrites (Torn area meta.log) 3 r old mid → Rewrites (Torn (slot_offset next) 41) 6 q mid new → Rewrites (TornSwitch before meta) 9 q old new
  switch_wrote r q old mid new v ok first second =
      Rewrites-weaker q (Then (Torn area meta.log) (Torn (slot_offset next) 41)) (TornSwitch before meta) 9 old new (λ b e both. as_switch b both.0 e both.1 both.2)
      (Rewrites-then r q (Torn area meta.log) (Torn (slot_offset next) 41) 3 6 old mid new v ok first second)
