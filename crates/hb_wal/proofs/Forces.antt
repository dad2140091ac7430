-- What a crash leaves inside a force, and what stands after it.
use Rattle.std.proofs.Common.{◌≡◌, ◌≢◌, inl, inr, ℕ, ◌+◌, ◌-◌, ◌<◌, ◌≤◌, true, false, List, [], ◌∷◌, ◌++◌, length, get_or, take, drop, replicate, Option, Some, None, IfSome, Result, refl, sym, ap, ◌∙◌, subst, arith, length-append}
use Rattle.std.specs.List.{All}
use Rattle.std.proofs.Math.Dec.{eqb}
use Rattle.std.proofs.lemmas.Bool.{cases_Bool, eqb-true, eqb-false, false≢true}
use Rattle.std.proofs.lemmas.List.{take_at, take-take, take-append-drop, drop_more, get_or-append_right, get_or-replicate}
use Rattle.std.proofs.lemmas.List.Elements.{All-append, All-cons, All-nil}
use Rattle.hb_disk.specs.Model.{DiskModel, IsDisk, overwritten, Torn}
use Rattle.hb_disk.specs.Calls.{Leaves, FrameOrNot, Becomes, open_gate}
use Rattle.hb_disk.specs.Runs.{Lasts, Rewrites}
use Rattle.hb_disk.proofs.Facts.TornLaws.{Torn-itself, Torn-wider, Torn-elsewhere}
use Rattle.hb_disk.proofs.Facts.RunLaws.{Leaves-start, Leaves-weaker}
use Rattle.hb_lemmas.proofs.Options.{at_value, of_value, if_value}
use Rattle.hb_disk.proofs.Facts.RewriteLaws.{Rewrites-weaker}
use Rattle.hb_wal.specs.Frames.{frames, frame_bytes, frame_body, IsPayload, IsEnd, HasFrames, range}
use Rattle.hb_wal.specs.Log.{Waiting, LogState, IsLog, waiting_bytes, forced, after_force}
use Rattle.hb_wal.specs.Forces.{HasLog, ForceLeaves}
use Rattle.hb_wal.proofs.Waiting.{count-pending, count-some, forced-some, length-waiting_bytes}
use Rattle.hb_wal.proofs.Kept.{frame_fits, length-frame}
use Rattle.hb_wal.proofs.Facts.AreaBytes.{get_or-range, length-range, range-overwritten, overwritten-zeros, frames-push, end_zeros}

-- groups wait where a log has a body for them
pub some_wait : (groups : List Waiting) → (groups ≡ [] → true ≡ false) → groups ≢ []
some_wait groups has none = false≢true (sym (has none))

-- The groups that wait are one payload.
module _ (log : LogState) (is_log : IsLog log) (waits : log.groups ≢ []) where
  abbrev payload : List ℕ
  payload = waiting_bytes log.groups

  pub payload_room : log.written + (5 + length payload) ≤ log.len
  payload_room = omega (arith, frame_fits log waits is_log, length-waiting_bytes log.groups)

  pub body_long : 1 + length (frame_body payload) ≡ 5 + length payload
  body_long = omega (arith, length-frame payload, length-append (frame_bytes payload) [])

  pub payload_fits : IsPayload payload
  payload_fits = record {
    some = omega (arith, length-waiting_bytes log.groups, count-some log.groups waits, count-pending log.groups is_log.groups);
    short = omega (arith, length-waiting_bytes log.groups, is_log.reserved);
  }

  pub forced_is : forced log.groups ≡ payload ∷ []
  forced_is = forced-some log.groups waits

  module _ (d : DiskModel) (is_disk : IsDisk d) (payloads : List (List ℕ)) (has : HasLog d log payloads) (b : List ℕ) (told : d.told ≡ Some b) (inside : log.area + log.len ≤ d.size) where
    abbrev gate : ℕ
    gate = log.area + log.written

    abbrev zeros : List ℕ
    zeros = replicate (log.len - log.written) 0

    long : (c : List ℕ) → d.Image c → log.area + log.len ≤ length c
    long c image = omega (arith, is_disk.long c image, inside)

    image_area : (c : List ℕ) → d.Image c → range log.area log.len c ≡ frames payloads ++ zeros
    image_area c image = has.synced.each b c told image ∙ at_value d.told (λ b. range log.area log.len b ≡ frames payloads ++ zeros) b told has.reads

    pub gate_closed : (c : List ℕ) → d.Image c → get_or c gate 0 ≢ open_gate
    gate_closed c image is_open =
        let here : log.written < log.len = omega (arith, payload_room) in
        let zero_there : get_or c gate 0 ≡ 0 =
        sym (get_or-range log.area log.len log.written c here) ∙ ap (λ (l : List ℕ). get_or l log.written 0) (image_area c image)
        ∙ get_or-append_right (frames payloads) zeros log.written log.written 0 has.count (omega arith) ∙ get_or-replicate (log.len - log.written) (log.written - log.written) 0 0 (omega (arith, here)) in
        cc (sym zero_there ∙ is_open)

    -- the area with the frame behind the others
    written_area : (c : List ℕ) → d.Image c → range log.area log.len (overwritten c gate (frame_bytes payload)) ≡ frames (payloads ++ payload ∷ []) ++ replicate (log.len - log.written - (5 + length payload)) 0
    written_area c image =
        let count : length (frame_bytes payload) ≡ 5 + length payload = omega (arith, body_long) in
        range-overwritten log.area log.len log.written c (frame_bytes payload) (long c image) (omega (arith, count, payload_room))
        ∙ ap (λ (l : List ℕ). overwritten l log.written (frame_bytes payload)) (image_area c image)
        ∙ ap (λ (k : ℕ). overwritten (frames payloads ++ zeros) k (frame_bytes payload)) (sym has.count)
        ∙ overwritten-zeros (frames payloads) (frame_bytes payload) (log.len - log.written)
        ∙ ap (λ (l : List ℕ). l ++ replicate (log.len - log.written - length (frame_bytes payload)) 0) (sym (frames-push payloads payload))
        ∙ ap (λ (k : ℕ). frames (payloads ++ payload ∷ []) ++ replicate (log.len - log.written - k) 0) count

    fits_more : All IsPayload (payloads ++ payload ∷ [])
    fits_more = All-append IsPayload payloads (payload ∷ []) has.payloads_fit (All-cons IsPayload payload [] payload_fits (All-nil IsPayload))

    -- a closed gate behind the frames
    module _ (a c : List ℕ) (image : d.Image a) (torn : Torn gate (1 + length (frame_body payload)) a c) where
      abbrev here : List ℕ
      here = range log.area log.len c

      front : take log.written here ≡ frames payloads
      front =
          take-take log.written log.len (drop log.area c) (omega (arith, payload_room))
          ∙ Torn-elsewhere gate (1 + length (frame_body payload)) log.area log.written a c (inl (omega arith)) torn
          ∙ sym (take-take log.written log.len (drop log.area a) (omega (arith, payload_room)))
          ∙ ap (λ (l : List ℕ). take log.written l) (image_area a image) ∙ take_at (frames payloads) zeros log.written has.count

      pub closed_bytes : here ≡ frames payloads ++ drop log.written here
      closed_bytes = sym (take-append-drop log.written here) ∙ ap (λ (l : List ℕ). l ++ drop log.written here) front

      pub closed_end : eqb (get_or c gate 0) open_gate ≡ false → IsEnd (drop log.written here)
      closed_end closed =
          let count : length here ≡ log.len = length-range log.area log.len c (omega (arith, torn.as_long, long a image)) in
          let in_range : log.written < log.len = omega (arith, payload_room) in
          subst IsEnd (sym (drop_more here log.written 0 (omega (arith, count, in_range))))
          (inr (λ e. eqb-false (get_or c gate 0) open_gate closed (sym (get_or-range log.area log.len log.written c in_range) ∙ e)))

    -- inside the calls
    pub framed : (c : List ℕ) → (a : List ℕ) × d.Image a × FrameOrNot gate (frame_body payload) a c → ForceLeaves d log payloads c
    framed c (a, image, frame) = record {
      before = a;
      image = image;
      elsewhere = Torn-wider gate (1 + length (frame_body payload)) log.area log.len a c (omega arith) (omega (arith, body_long, payload_room)) frame.elsewhere;
      frames_of = elim (cases_Bool (eqb (get_or c gate 0) open_gate)) [
        | inl is_open ↦ inr (subst (λ (l : List (List ℕ)). HasFrames (range log.area log.len c) (payloads ++ l)) (sym forced_is) (record {
          payloads_fit = fits_more;
          rest = replicate (log.len - log.written - (5 + length payload)) 0;
          bytes = ap (range log.area log.len) (frame.whole (eqb-true (get_or c gate 0) open_gate is_open)) ∙ written_area a image;
          at_end = end_zeros (log.len - log.written - (5 + length payload));
        }))
        | inr closed ↦ inl (record {
          payloads_fit = has.payloads_fit;
          rest = drop log.written (range log.area log.len c);
          bytes = closed_bytes a c image frame.elsewhere;
          at_end = closed_end a c image frame.elsewhere closed;
        })
      ];
    }

    -- after them
    pub written_log : (new : DiskModel) → new.told ≡ Some (overwritten b gate (frame_bytes payload)) → ((c e : List ℕ) → new.told ≡ Some e → new.Image c → c ≡ e)
        → HasLog new (after_force log) (payloads ++ forced log.groups)
    written_log new new_told only =
        let After : List (List ℕ) → Type 0 = λ l. HasLog new (record { area = log.area; len = log.len; written = log.written + length (frames l); groups = (after_force log).groups }) (payloads ++ l) in
        subst After (sym forced_is) (record {
          synced = record { each = λ e c told image. ap (range log.area log.len) (only c e told image) };
          payloads_fit = fits_more;
          count = ap (λ (l : List ℕ). length l) (frames-push payloads payload) ∙ omega (arith, length-append (frames payloads) (frame_bytes payload), has.count, length-append (frame_bytes payload) []);
          reads = of_value new.told (λ e. range log.area log.len e ≡ frames (payloads ++ payload ∷ []) ++ replicate (log.len - (log.written + length (frames (payload ∷ [])))) 0) (overwritten b gate (frame_bytes payload)) new_told
              (written_area b (is_disk.as_read b told) ∙ ap (λ (k : ℕ). frames (payloads ++ payload ∷ []) ++ replicate k 0) (omega (arith, length-frame payload)));
        })

-- where no group waits
module _ (log : LogState) (none : log.groups ≡ []) (d : DiskModel) (is_disk : IsDisk d) (payloads : List (List ℕ)) (has : HasLog d log payloads) (b : List ℕ) (told : d.told ≡ Some b) where
  nothing_framed : (c : List ℕ) → d.Image c → ForceLeaves d log payloads c
  nothing_framed c image = record {
    before = c;
    image = image;
    elsewhere = Torn-itself log.area log.len c (is_disk.bytes c image);
    frames_of = inl (record {
      payloads_fit = has.payloads_fit;
      rest = replicate (log.len - log.written) 0;
      bytes = has.synced.each b c told image ∙ at_value d.told (λ b. range log.area log.len b ≡ frames payloads ++ replicate (log.len - log.written) 0) b told has.reads;
      at_end = end_zeros (log.len - log.written);
    });
  }

  pub nothing_left : Leaves d d (ForceLeaves d log payloads)
  nothing_left = Leaves-start d (ForceLeaves d log payloads) is_disk nothing_framed

-- What the calls behind the gate of the next frame say of the log.
module _ (log : LogState) (is_log : IsLog log) (body : List ℕ) (waits : log.groups ≢ []) (begins : body ≡ frame_body (waiting_bytes log.groups)) (at : ℕ) (at_is : at ≡ log.area + log.written) (d : DiskModel) (is_disk : IsDisk d) (inside : log.area + log.len ≤ d.size) where
  abbrev whole : List ℕ
  whole = waiting_bytes log.groups

  body_count : 1 + length body ≡ 5 + length whole
  body_count = omega (arith, ap (λ (l : List ℕ). length l) begins, body_long log is_log waits)

  pub body_inside : at + 1 + length body ≤ d.size
  body_inside = omega (arith, at_is, inside, body_count, payload_room log is_log waits)

  pub wrote_within : {T E : Type 0} (r : Result T E) (new : DiskModel) → Rewrites (Torn at (1 + length body)) 4 r d new → Rewrites (Torn log.area log.len) 4 r d new
  wrote_within r new run = Rewrites-weaker r (Torn at (1 + length body)) (Torn log.area log.len) 4 d new
      (λ a c torn. Torn-wider at (1 + length body) log.area log.len a c (omega (arith, at_is)) (omega (arith, at_is, body_count, payload_room log is_log waits)) torn) run

  module _ (payloads : List (List ℕ)) (has : HasLog d log payloads) (b : List ℕ) (told : d.told ≡ Some b) where
    pub at_closed : (c : List ℕ) → d.Image c → get_or c at 0 ≢ open_gate
    at_closed = rw at_is (gate_closed log is_log waits d is_disk payloads has b told inside)

    pub moments_within : (new : DiskModel) → Leaves d new (λ c. (a : List ℕ) × d.Image a × FrameOrNot at body a c) → Leaves d new (ForceLeaves d log payloads)
    moments_within new run =
        let Framed : List ℕ → Type 0 = λ c. (a : List ℕ) × d.Image a × FrameOrNot (log.area + log.written) (frame_body whole) a c in
        let here : Leaves d new Framed = rw at_is at (rw begins at run) in
        Leaves-weaker d new Framed (ForceLeaves d log payloads) (framed log is_log waits d is_disk payloads has b told inside) here

    pub log_within : (new : DiskModel) → IfSome d.told (λ b. new.told ≡ Some (overwritten b at (open_gate ∷ body))) → Lasts new
        → HasLog new (after_force log) (payloads ++ forced log.groups)
    log_within new written durable =
        let now : new.told ≡ Some (overwritten b at (open_gate ∷ body)) = at_value d.told (λ b. new.told ≡ Some (overwritten b at (open_gate ∷ body))) b told written in
        let there : new.told ≡ Some (overwritten b (log.area + log.written) (frame_bytes whole)) = rw at_is at (rw begins at now) in
        written_log log is_log waits d is_disk payloads has b told inside new there (λ c e told_new image. at_value new.told (λ b. (c : List ℕ) → new.Image c → c ≡ b) e told_new durable c image)

  -- the same over every disk
  pub log_anyway : (payloads : List (List ℕ)) → HasLog d log payloads → (new : DiskModel) → Becomes (Torn at (1 + length body)) d new
      → IfSome d.told (λ b. new.told ≡ Some (overwritten b at (open_gate ∷ body))) → Lasts new
      → HasLog new (after_force log) (payloads ++ forced log.groups)
  log_anyway payloads has new run written durable = by_cases d.told refl
    where
      silent_log : d.told ≡ None → HasLog new (after_force log) (payloads ++ forced log.groups)
      silent_log none =
          let After : List (List ℕ) → Type 0 = λ l. HasLog new (record { area = log.area; len = log.len; written = log.written + length (frames l); groups = (after_force log).groups }) (payloads ++ l) in
          let silent = run.silent none in
          subst After (sym (forced_is log is_log waits)) (record {
            synced = record { each = λ b c told image. absurd (cc (sym silent ∙ told)) };
            payloads_fit = All-append IsPayload payloads (whole ∷ []) has.payloads_fit (All-cons IsPayload whole [] (payload_fits log is_log waits) (All-nil IsPayload));
            count = ap (λ (l : List ℕ). length l) (frames-push payloads whole) ∙ omega (arith, length-append (frames payloads) (frame_bytes whole), has.count, length-append (frame_bytes whole) []);
            reads = if_value new.told (λ e. range log.area log.len e ≡ frames (payloads ++ whole ∷ []) ++ replicate (log.len - (log.written + length (frames (whole ∷ [])))) 0) (λ e told. absurd (cc (sym silent ∙ told)));
          })

      by_cases : (o : Option (List ℕ)) → d.told ≡ o → HasLog new (after_force log) (payloads ++ forced log.groups)
      by_cases None none = silent_log none
      by_cases (Some b) told = log_within payloads has b told new written durable
