-- What reading a log tells, from what its payloads make of the file.
use Rattle.std.proofs.Common.{◌≡◌, inl, inr, ℕ, ◌<◌, ◌≤◌, ◌^◌, List, ◌∷◌, ◌++◌, length, map, drop, All, Option, Some, None, Result, Ok, Err, Vec, refl, ap, subst, ◌∙◌, append_assoc, length-append, arith}
use Rattle.std.specs.Prelude.{IfErr, IfSome}
use Rattle.std.specs.declared.alloc.Global.{Global}
use Rattle.std.proofs.lemmas.List.{length-take, map-append}
use Rattle.std.proofs.lemmas.Grind.{flat_map-append}
use Rattle.std.proofs.lemmas.List.Elements.{All-head}
use Rattle.hb_lemmas.proofs.Lists.{All-front, All-behind}
use Rattle.hb_layout.specs.declared.meta.Meta.{Meta}
use Rattle.hb_wal.proofs.Facts.FrameCounts.{frames_count}
use Rattle.hb_wal.specs.Frames.{frames, frame_bytes, IsPayload, HasFrames, HasBadFrame}
use Rattle.hb_store.specs.Replay.{Replayed, untouched}
use Rattle.hb_layout.specs.Offsets.{log_start}
use Rattle.hb_store.specs.Opening.{IsBadPayload, HasBadGroup, log_bytes}
use Rattle.hb_store.specs.Replaying.{AreItsPages, ReplaysOn, replayed_of, HasReplayed, IsFirstBad}
use Rattle.hb_store.specs.LogReading.{NamesBad, NamesBadOr, log_stop, IsTouched, ReadsNoLog}
use Rattle.hb_store.specs.declared.touched.Touched.{Touched}
use Rattle.hb_store.specs.declared.touched.LogStop.{LogStop}
use Rattle.hb_store.specs.declared.touched.LogStop.TheVariants as logs
use Rattle.hb_store.specs.declared.touched.ReplayStop.{ReplayStop}
use Rattle.hb_store.specs.declared.touched.ReplayStop.TheVariants as replays

pub none_its : (said : Meta) → AreItsPages (untouched said)
none_its said id page e = absurd cc

-- The payload that comes next, behind those that came: by what vectors hold.
pub parted : (all came : List (Vec ℕ Global)) (next : Vec ℕ Global) (behind : List (Vec ℕ Global)) → all ≡ came ++ next ∷ behind
    → map (λ v. v.items) all ≡ map (λ v. v.items) came ++ next.items ∷ map (λ v. v.items) behind
parted all came next behind split = ap (map (λ v. v.items)) split ∙ map-append (λ v. v.items) came (next ∷ behind)

pub touched_is : (said : Meta) (t : Touched) → ReplaysOn (untouched said) (replayed_of t) → IsTouched said t
touched_is said t on = record {
  meta = on.meta;
  pages = λ id page e. let good = on.pages id page e in (good.0.0, good.0.1, good.1);
}

pub first_bad : (said : Meta) (payloads before behind : List (List ℕ)) (payload : List ℕ) (t : Replayed) (stop : ReplayStop) → payloads ≡ before ++ payload ∷ behind
    → HasReplayed said before t → (stop ≡ replays.Unfit → IsBadPayload said.k t payload) → NamesBad said payloads (log_stop (length before) stop)
first_bad said payloads before behind payload t replays.NoMemory parts so_far bad = tt
first_bad said payloads before behind payload t replays.Unfit parts so_far bad = record {
  before = before;
  payload = payload;
  behind = behind;
  parts = parts;
  counted = refl;
  reached = t;
  replayed = so_far;
  bad = bad refl;
}

-- ---- the bytes of the area

bad_payload : (bytes : List ℕ) (turn : ℕ) (said : Meta) (payloads : List (List ℕ)) (rest : List ℕ) (frame : ℕ) → All IsPayload payloads → log_bytes turn said bytes ≡ frames payloads ++ rest → IsFirstBad said payloads frame → HasBadGroup bytes turn said frame
bad_payload bytes turn said payloads rest frame fit parts first =
    let p = first.payload in
    let behind = frames first.behind ++ rest in
    let all_fit : All IsPayload (first.before ++ p ∷ first.behind) = subst (λ l. All IsPayload l) first.parts fit in
    let split : frames payloads ++ rest ≡ frames first.before ++ (frame_bytes p ++ behind) =
    ap (λ l. frames l ++ rest) first.parts ∙ ap (λ (l : List ℕ). l ++ rest) (flat_map-append frame_bytes first.before (p ∷ first.behind))
    ∙ append_assoc (frames first.before) (frames (p ∷ first.behind)) rest ∙ ap (λ (l : List ℕ). frames first.before ++ l) (append_assoc (frame_bytes p) (frames first.behind) rest) in
    record {
      before = first.before;
      groups = first.replayed.groups;
      rest = frame_bytes p ++ behind;
      counted = first.counted;
      payloads_fit = All-front IsPayload first.before (p ∷ first.behind) all_fit;
      framed = parts ∙ split;
      spelled = first.replayed.spelled;
      replayed = first.replayed.may;
      bad = inr (
        p,
        record { fits = All-head IsPayload p first.behind (All-behind IsPayload first.before (p ∷ first.behind) all_fit); behind = behind; bytes = refl },
        subst (λ r. IsBadPayload said.k r p) first.replayed.leads first.bad,
      );
    }

stop_in_frames : (bytes : List ℕ) (turn : ℕ) (said : Meta) (payloads : List (List ℕ)) (stop : LogStop) → HasFrames (log_bytes turn said bytes) payloads → NamesBad said payloads stop → ReadsNoLog bytes turn said stop
stop_in_frames bytes turn said payloads (logs.BadGroup frame) framed names = bad_payload bytes turn said payloads framed.rest frame framed.payloads_fit framed.bytes names
stop_in_frames bytes turn said payloads logs.NoMemory framed names = tt
stop_in_frames bytes turn said payloads logs.DiskFault framed names = tt

pub no_log_ok : (turn : ℕ) (said : Meta) (payloads : List (List ℕ)) (told : Option (List ℕ)) (result : Result Touched LogStop) → IfSome told (λ b. HasFrames (log_bytes turn said b) payloads) → IfErr result (NamesBad said payloads)
    → IfErr result (λ stop. IfSome told (λ b. ReadsNoLog b turn said stop))
no_log_ok turn said payloads told (Ok t) framed names = tt
no_log_ok turn said payloads None (Err stop) framed names = tt
no_log_ok turn said payloads (Some b) (Err stop) framed names = stop_in_frames b turn said payloads stop framed names

at_bad_frame : (bytes : List ℕ) (turn : ℕ) (said : Meta) (before : List (List ℕ)) (stop : LogStop) → HasBadFrame (log_bytes turn said bytes) before → NamesBadOr said before stop → ReadsNoLog bytes turn said stop
at_bad_frame bytes turn said before (logs.BadGroup frame) framed (inl names) = bad_payload bytes turn said before framed.rest frame framed.payloads_fit framed.bytes names
at_bad_frame bytes turn said before (logs.BadGroup frame) framed (inr names) = record {
  before = before;
  groups = names.2.groups;
  rest = framed.rest;
  counted = names.0;
  payloads_fit = framed.payloads_fit;
  framed = framed.bytes;
  spelled = names.2.spelled;
  replayed = names.2.may;
  bad = inl framed.bad;
}
at_bad_frame bytes turn said before logs.NoMemory framed names = tt
at_bad_frame bytes turn said before logs.DiskFault framed names = tt

pub no_log_bad : (turn : ℕ) (said : Meta) (frame : ℕ) (before : List (List ℕ)) (told : Option (List ℕ)) (stop : LogStop) → said.log ≤ 67108864 → IfSome told (λ b. (frame ≡ length before) × HasBadFrame (log_bytes turn said b) before)
    → (length before < 2 ^ 32 → frame ≡ length before → NamesBadOr said before stop) → IfSome told (λ b. ReadsNoLog b turn said stop)
no_log_bad turn said frame before None stop limit framed names = tt
no_log_bad turn said frame before (Some b) stop limit framed names =
    let area = log_bytes turn said b in
    let short : length area ≤ said.log = omega (arith, length-take said.log (drop (log_start turn said) b)) in
    let few : length before < 2 ^ 32 = omega (arith, frames_count before, ap (λ (l : List ℕ). length l) framed.1.bytes, length-append (frames before) framed.1.rest, short, limit) in
    at_bad_frame b turn said before stop framed.1 (names few framed.0)

pub few_payloads : (payloads : List (List ℕ)) (len : ℕ) → length (frames payloads) ≤ len → len ≤ 67108864 → length payloads < 2 ^ 32
few_payloads payloads len short limit = omega (arith, frames_count payloads, short, limit)
