-- What the clearing of a hidden body leaves.
use Rattle.std.proofs.Common.{◌≡◌, ◌≢◌, ◌⊎◌, inl, inr, ℕ, ◌+◌, ◌*◌, ◌%◌, ◌≤◌, List, length, take, drop, get_or, replicate, Option, Some, None, IfSome, Result, Ok, sym, ap, ◌∙◌, subst, refl, arith}
use Rattle.hb_space.specs.declared.form.TheConstants.{PAGE}
use Rattle.hb_disk.specs.Model.{DiskModel, IsDisk, overwritten, Torn}
use Rattle.hb_disk.specs.Calls.{Writes, Syncs, Leaves, Becomes, IsSynced, Apart, OnlyReads, open_gate}
use Rattle.hb_disk.specs.Runs.{Rewrites, WritesThrough}
use Rattle.hb_disk.proofs.Facts.TornLaws.{Torn-same, Torn-itself, Torn-elsewhere}
use Rattle.hb_disk.proofs.Facts.OverwrittenLaws.{overwritten-reads}
use Rattle.hb_disk.proofs.Facts.RunLaws.{Leaves-start, Leaves-call, Leaves-read, Leaves-then, Leaves-weaker}
use Rattle.hb_lemmas.proofs.Options.{at_value, of_value, if_value}
use Rattle.std.proofs.lemmas.Option.{same_Some}
use Rattle.hb_disk.proofs.Facts.BecomesLaws.{told_written}
use Rattle.hb_disk.proofs.Facts.RewriteLaws.{Rewrites-write, Rewrites-sync, Rewrites-torn, WritesThrough-synced}
use Rattle.hb_layout.specs.declared.meta.Meta.{Meta}
use Rattle.hb_layout.specs.Offsets.{slot_offset}
use Rattle.hb_super.specs.Superblocks.{IsLegal, IsNewest, body_bytes, next_turn}
use Rattle.hb_super.specs.Moments.{NoOther, HidesNoOther, IsOther, HidesOther, ClearLeaves}
use Rattle.hb_super.proofs.Facts.Gates.{gate_part, newest_same}
use Rattle.hb_super.proofs.Supers.{gate_at, body_at, same_place, other_parity}
use Rattle.hb_super.proofs.Bodies.{one_body}
use Rattle.hb_super.proofs.Writes.{place_fits, places_apart, next_apart}

-- where a body says this, and this is another or the same
module _ (turn : ℕ) (said meta : Meta) (gate : ℕ) (body : List ℕ) (legal : IsLegal turn said) (is : body ≡ body_bytes turn said) where
  pub other_from : gate ≢ open_gate → said ≢ meta → IsOther turn meta gate body
  other_from closed differ = record { said = said; closed = closed; legal = legal; body_is = is; other = differ }

  pub same_from : said ≡ meta → NoOther turn meta gate body
  same_from same = λ _ m m_legal m_is. one_body turn m said m_legal legal (sym m_is ∙ is) ∙ same

-- zeros are no body
pub zeros_none : (bytes : List ℕ) (turn : ℕ) (meta : Meta) → 8192 ≤ length bytes → HidesNoOther (overwritten bytes (slot_offset turn + 1) (replicate 40 0)) turn meta
zeros_none bytes turn meta long = λ closed said legal is.
    let fits : slot_offset turn + 1 + length {A = ℕ} (replicate 40 0) ≤ length bytes = omega (arith, long, place_fits turn) in
    let reads : take 40 (drop (slot_offset turn + 1) (overwritten bytes (slot_offset turn + 1) (replicate 40 0))) ≡ replicate 40 0 = overwritten-reads bytes (slot_offset turn + 1) (replicate 40 0) fits in
    let first : 0 ≡ 0x48 = ap (λ (l : List ℕ). get_or l 0 0) (sym reads ∙ is) in
    absurd (omega (arith, first))

-- what a disk tells after the zeroing has no other body
pub zeroed_hides : {T E : Type 0} (r : Result T E) (v : T) (d one : DiskModel) → IsDisk d → 8192 ≤ d.size → (turn : ℕ) → r ≡ Ok v → Writes (slot_offset turn + 1) (replicate 40 0) r d one
    → (e : List ℕ) → one.told ≡ Some e → (meta : Meta) → HidesNoOther e turn meta
zeroed_hides r v d one is_disk room turn ok writes e told meta = by_cases d.told refl
  where
    by_cases : (o : Option (List ℕ)) → d.told ≡ o → HidesNoOther e turn meta
    by_cases None none = absurd (cc (sym told ∙ writes.silent none))
    by_cases (Some b) was =
        let zeroed = overwritten b (slot_offset turn + 1) (replicate 40 0) in
        let written : one.told ≡ Some zeroed = told_written r v (slot_offset turn + 1) (replicate 40 0) d one b ok was writes in
        subst (λ (l : List ℕ). HidesNoOther l turn meta) (same_Some zeroed e (sym written ∙ told))
        (zeros_none b turn meta (omega (arith, is_disk.long b (is_disk.as_read b was), room)))

-- what the zeroing of a body, and the sync after it, touched and left
module _ (d one : DiskModel) (is_disk : IsDisk d) (is_one : IsDisk one) (room : 8192 ≤ d.size) (turn : ℕ) {T E : Type 0} (zeroed : Result T E)
    (at : ℕ) (is : at ≡ slot_offset turn) (found : Writes (at + 1) (replicate 40 0) zeroed d one) where
  writes : Writes (slot_offset turn + 1) (replicate 40 0) zeroed d one
  writes = subst (λ (place : ℕ). Writes (place + 1) (replicate 40 0) zeroed d one) is found

  -- an image of before, torn in the body
  abbrev pub InBody : List ℕ → Type 0
  InBody c = (a : List ℕ) × d.Image a × Torn (slot_offset turn + 1) 40 a c

  pub zero_moments : Leaves d one InBody
  zero_moments = Leaves-call zeroed d d one InBody (Leaves-start d InBody is_disk (λ c image. (c, image, Torn-itself (slot_offset turn + 1) 40 c (is_disk.bytes c image)))) writes.ticks writes.crash

  pub sync_moments : {F G : Type 0} (synced : Result F G) (new : DiskModel) → Syncs synced one new → Leaves d new InBody
  sync_moments synced new syncs = Leaves-call synced d one new InBody zero_moments syncs.ticks (λ c image. writes.crash c (syncs.crash c image))

  pub zero_wrote : Rewrites (Torn (slot_offset turn + 1) 40) 1 zeroed d one
  zero_wrote = Rewrites-write zeroed (slot_offset turn + 1) (replicate 40 0) (slot_offset turn + 1) 40 d one is_disk is_one (omega (arith, place_fits turn, room)) (omega arith) (omega arith) writes

  pub sync_wrote : (v : T) → zeroed ≡ Ok v → {F G : Type 0} (synced : Result F G) (new : DiskModel) → Syncs synced one new
      → WritesThrough (λ b. overwritten b (slot_offset turn + 1) (replicate 40 0)) (Torn (slot_offset turn + 1) 40) 2 synced d new
  sync_wrote v ok synced new syncs =
      WritesThrough-synced synced (λ b. overwritten b (slot_offset turn + 1) (replicate 40 0)) (Torn (slot_offset turn + 1) 40) 2 d one new syncs
      (λ b told. told_written zeroed v (slot_offset turn + 1) (replicate 40 0) d one b ok told writes)
      (Rewrites-torn zeroed synced (slot_offset turn + 1) 40 1 1 d one new v ok zero_wrote (Rewrites-sync synced (slot_offset turn + 1) 40 one new is_one syncs))

module _ (b : List ℕ) (old : ℕ) (said : Meta) (newest : IsNewest b old said) (turn : ℕ) (next : turn ≡ next_turn old) where
  body_apart : Apart (slot_offset old) 41 (slot_offset turn + 1) 40
  body_apart = elim (places_apart turn old next) [ inl front ↦ inl (omega (arith, front)) | inr behind ↦ inr (omega (arith, behind)) ]

  -- what is torn behind a closed gate is no superblock
  pub newest_torn : (c : List ℕ) → get_or b (slot_offset turn) 0 ≢ open_gate → Torn (slot_offset turn + 1) 40 b c → IsNewest c old said
  newest_torn c closed torn = record {
    there = same_place b c old said (Torn-elsewhere (slot_offset turn + 1) 40 (slot_offset old) 41 b c body_apart torn) newest.there;
    newer = λ other m has differs.
        let parity : turn % 2 ≡ other % 2 = other_parity turn old other (next_apart turn old next) differs in
        absurd (closed (sym (Torn-same (slot_offset turn + 1) 40 b c torn (slot_offset turn) (inl (omega arith)))
        ∙ ap (λ (p : ℕ). get_or c (PAGE * p) 0) parity ∙ has.gate));
  }

module _ (d one : DiskModel) (is_disk : IsDisk d) (reads : OnlyReads d one) (old : ℕ) (said : Meta) (turn : ℕ) (next : turn ≡ next_turn old) (synced : IsSynced d 0 8192)
    (b : List ℕ) (told : d.told ≡ Some b) (newest : IsNewest b old said) where
  abbrev Left : List ℕ → Type 0
  Left = ClearLeaves d old said turn

  image_newest : (a : List ℕ) → d.Image a → IsNewest a old said
  image_newest a image = newest_same b a (synced.each b a told image) old said newest

  pub read_left : Leaves d one Left
  read_left = Leaves-read d d one Left (Leaves-start d Left is_disk (λ c image. record {
    base = c;
    image = image;
    elsewhere = Torn-itself (slot_offset turn + 1) 40 c (is_disk.bytes c image);
    newest = image_newest c image;
  })) reads.stays

  pub clear_left : (new : DiskModel) → get_or b (slot_offset turn) 0 ≢ open_gate → Leaves one new (λ c. (a : List ℕ) × one.Image a × Torn (slot_offset turn + 1) 40 a c) → Leaves d new Left
  clear_left new closed run = Leaves-then d one new Left read_left
      (Leaves-weaker one new (λ c. (a : List ℕ) × one.Image a × Torn (slot_offset turn + 1) 40 a c) Left (λ c from.
      let image : d.Image from.0 = reads.stays.image from.0 from.1 in
      record {
        base = from.0;
        image = image;
        elsewhere = from.2;
        newest = newest_torn from.0 old said (image_newest from.0 image) turn next c (λ is_open. closed (sym (gate_part from.0 b (synced.each b from.0 told image) turn) ∙ is_open)) from.2;
      }) run)

-- what reads alone keep
module _ (d one : DiskModel) (is_disk : IsDisk d) (reads : OnlyReads d one) (turn : ℕ) where
  pub reads_nothing : (meta : Meta) → IfSome d.told (λ b. HidesNoOther b turn meta → OnlyReads d one)
  reads_nothing meta = if_value d.told (λ b. HidesNoOther b turn meta → OnlyReads d one) (λ _ _ _. reads)

  pub reads_closed : IfSome d.told (λ b. (get_or b (slot_offset turn) 0 ≢ open_gate) ⊎ OnlyReads d one)
  reads_closed = if_value d.told (λ b. (get_or b (slot_offset turn) 0 ≢ open_gate) ⊎ OnlyReads d one) (λ _ _. inr reads)

  pub reads_newest : (old : ℕ) (said : Meta) → IfSome d.told (λ b. IsNewest b old said → IfSome one.told (λ c. IsNewest c old said))
  reads_newest old said = if_value d.told (λ b. IsNewest b old said → IfSome one.told (λ c. IsNewest c old said)) (λ b told newest.
      of_value one.told (λ c. IsNewest c old said) b (reads.stays.told ∙ told) newest)

  pub reads_hidden : (meta : Meta) → IfSome d.told (λ b. HidesNoOther b turn meta) → IfSome one.told (λ b. HidesNoOther b turn meta)
  reads_hidden meta is = if_value one.told (λ b. HidesNoOther b turn meta) (λ b told.
      at_value d.told (λ b. HidesNoOther b turn meta) b (sym reads.stays.told ∙ told) is)

-- what is said of a place's gate and body is what the bytes that were read of it say
pub place_read : (P : ℕ → List ℕ → Type 0) (turn : ℕ) (b into : List ℕ) → into ≡ take 41 (drop (slot_offset turn) b) → P (get_or into 0 0) (drop 1 into)
    → P (get_or b (slot_offset turn) 0) (take 40 (drop (slot_offset turn + 1) b))
place_read P turn b into read is =
    subst (λ (gate : ℕ). P gate (take 40 (drop (slot_offset turn + 1) b))) (ap (λ (l : List ℕ). get_or l 0 0) read ∙ gate_at b (slot_offset turn))
    (subst (λ (body : List ℕ). P (get_or into 0 0) body) (ap (λ (l : List ℕ). drop 1 l) read ∙ body_at b (slot_offset turn)) is)

-- where nothing was found
pub read_moments : (d one : DiskModel) → IsDisk d → OnlyReads d one → (turn old : ℕ) (said : Meta) → turn ≡ next_turn old → IsSynced d 0 8192
    → IfSome d.told (λ b. IsNewest b old said → Leaves d one (ClearLeaves d old said turn))
read_moments d one is_disk reads turn old said next synced = if_value d.told (λ b. IsNewest b old said → Leaves d one (ClearLeaves d old said turn)) (λ b told newest.
    read_left d one is_disk reads old said turn next synced b told newest)

-- where another body was found, and zeroed
module _ (d one new : DiskModel) (is_disk : IsDisk d) (reads : OnlyReads d one) (turn : ℕ) (meta : Meta) (is : IfSome d.told (λ b. HidesOther b turn meta)) where
  other : (b : List ℕ) → d.told ≡ Some b → HidesOther b turn meta
  other b told = at_value d.told (λ b. HidesOther b turn meta) b told is

  pub cleared_nothing : IfSome d.told (λ b. HidesNoOther b turn meta → OnlyReads d new)
  cleared_nothing = if_value d.told (λ b. HidesNoOther b turn meta → OnlyReads d new) (λ b told none.
      let here = other b told in absurd (here.other (none here.closed here.said here.legal here.body_is)))

  pub cleared_closed : IfSome d.told (λ b. (get_or b (slot_offset turn) 0 ≢ open_gate) ⊎ OnlyReads d new)
  cleared_closed = if_value d.told (λ b. (get_or b (slot_offset turn) 0 ≢ open_gate) ⊎ OnlyReads d new) (λ b told. let here = other b told in inl here.closed)

  pub cleared_newest : Becomes (Torn (slot_offset turn + 1) 40) one new → (old : ℕ) (said : Meta) → turn ≡ next_turn old
      → IfSome d.told (λ b. IsNewest b old said → IfSome new.told (λ c. IsNewest c old said))
  cleared_newest run old said next = if_value d.told (λ b. IsNewest b old said → IfSome new.told (λ c. IsNewest c old said)) (λ b told newest.
      let here = other b told in
      let after = at_value one.told (λ b. (c : List ℕ) × (new.told ≡ Some c) × Torn (slot_offset turn + 1) 40 b c) b (reads.stays.told ∙ told) run.told in
      of_value new.told (λ c. IsNewest c old said) after.0 after.1 (newest_torn b old said newest turn next after.0 here.closed after.2))

  pub cleared_moments : Leaves one new (λ c. (a : List ℕ) × one.Image a × Torn (slot_offset turn + 1) 40 a c) → (old : ℕ) (said : Meta) → turn ≡ next_turn old → IsSynced d 0 8192
      → IfSome d.told (λ b. IsNewest b old said → Leaves d new (ClearLeaves d old said turn))
  cleared_moments run old said next synced = if_value d.told (λ b. IsNewest b old said → Leaves d new (ClearLeaves d old said turn)) (λ b told newest.
      let here = other b told in
      clear_left d one is_disk reads old said turn next synced b told newest new here.closed run)
