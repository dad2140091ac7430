-- Where the log of some bytes has a bad group it is the first one, and its frames are not read to an end.
use Rattle.std.proofs.Common.{◌≡◌, ◌⊎◌, inl, inr, ℕ, ◌<◌, ◌^◌, List, [], ◌∷◌, ◌++◌, length, All, sym, ap, subst, refl, ◌∙◌, append_assoc, arith}
use Rattle.std.proofs.lemmas.List.Elements.{All-head, All-tail}
use Rattle.hb_layout.specs.declared.meta.Meta.{Meta}
use Rattle.hb_wal.specs.Frames.{frames, frame_bytes, IsPayload, IsEnd, IsBadFrame}
use Rattle.hb_wal.specs.Reading.{BeginsFrame}
use Rattle.hb_wal.proofs.Facts.FrameHeads.{head_of, no_frame_at_bad, no_head_at_end, same_frame}
use Rattle.hb_log_codec.specs.Groups.{Logged, SpellsGroups}
use Rattle.hb_store.proofs.Facts.Spellings.{OneList}
use Rattle.hb_store.specs.Replay.{Replayed, MayReplay, replay, untouched}
use Rattle.hb_store.proofs.Facts.ReplayLaws.{MayReplay-front, replay-append, MayReplay-back}
use Rattle.hb_store.specs.Opening.{HasBadGroup, HasGroups, IsBadPayload, SpellAll}

-- ---- where reading stops

abbrev IsBadAt : ℕ → Replayed → List ℕ → Type 0
IsBadAt k t rest = IsBadFrame rest ⊎ ((payload : List ℕ) × BeginsFrame rest payload × IsBadPayload k t payload)

-- a frame whose groups may be replayed isn't bad
no_bad_here : (k : ℕ) (t : Replayed) (p xs rest : List ℕ) (groups : List Logged) → IsPayload p → SpellsGroups k p groups → MayReplay t groups → rest ≡ frame_bytes p ++ xs → IsBadAt k t rest → ⊥
no_bad_here k t p xs rest groups fit spells may e (inl bad) = no_frame_at_bad p xs rest fit e bad
no_bad_here k t p xs rest groups fit spells may e (inr bad) =
    let same = same_frame p bad.0 xs bad.1.behind fit.short bad.1.fits.short (sym e ∙ bad.1.bytes) in
    bad.2 groups (subst (λ q. SpellsGroups k q groups) same.0 spells) may

no_bad_at_end : (k : ℕ) (t : Replayed) (rest : List ℕ) → IsEnd rest → IsBadAt k t rest → ⊥
no_bad_at_end k t rest end (inl bad) = no_head_at_end bad.len bad.behind rest end bad.bytes
no_bad_at_end k t rest end (inr bad) = no_head_at_end (length bad.0) (bad.0 ++ bad.1.behind) rest end (bad.1.bytes ∙ head_of bad.0 bad.1.behind)

-- The first of more frames isn't bad where nothing was read so far.
no_bad_first : (k : ℕ) (t : Replayed) (p : List ℕ) (ps : List (List ℕ)) (xs rest : List ℕ) (none groups : List Logged) → none ≡ [] → All IsPayload (p ∷ ps) → SpellAll k (p ∷ ps) groups → MayReplay t groups → rest ≡ frames (p ∷ ps) ++ xs
    → IsBadAt k (replay t none) rest → ⊥
no_bad_first k t p ps xs rest none groups is_none fit spelled may e bad =
    no_bad_here k t p (frames ps ++ xs) rest spelled.0 (All-head IsPayload p ps fit) spelled.3 (MayReplay-front t spelled.0 spelled.1 (subst (MayReplay t) spelled.2 may)) (e ∙ append_assoc (frame_bytes p) (frames ps) xs)
    (subst (λ g. IsBadAt k (replay t g) rest) is_none bad)

-- two readings of the same bytes after their first frames
same_first : (p q : List ℕ) (ps qs : List (List ℕ)) (r s : List ℕ) → length p < 2 ^ 32 → length q < 2 ^ 32 → frames (p ∷ ps) ++ r ≡ frames (q ∷ qs) ++ s → (p ≡ q) × (frames ps ++ r ≡ frames qs ++ s)
same_first p q ps qs r s p_short q_short e =
    same_frame p q (frames ps ++ r) (frames qs ++ s) p_short q_short (sym (append_assoc (frame_bytes p) (frames ps) r) ∙ e ∙ append_assoc (frame_bytes q) (frames qs) s)

module _ (once : OneList) (k : ℕ) where
  -- two payloads of the same bytes spell the same groups
  same_front : (p q : List ℕ) (front other : List Logged) → p ≡ q → SpellsGroups k p front → SpellsGroups k q other → front ≡ other
  same_front p q front other same here there = once k q front other (subst (λ x. SpellsGroups k x front) same here) there

  -- what is left to replay, from where the same groups lead
  may_rest : (t : Replayed) (front other behind groups : List Logged) → front ≡ other → groups ≡ front ++ behind → MayReplay t groups → MayReplay (replay t other) behind
  may_rest t front other behind groups same parts may = subst (λ g. MayReplay (replay t g) behind) same (MayReplay-back t front behind (subst (MayReplay t) parts may))

  bad_rest : (t : Replayed) (front other behind groups : List Logged) (rest : List ℕ) → front ≡ other → groups ≡ front ++ behind → IsBadAt k (replay t groups) rest → IsBadAt k (replay (replay t other) behind) rest
  bad_rest t front other behind groups rest same parts bad =
      subst (λ r. IsBadAt k r rest) (ap (replay t) parts ∙ replay-append t front behind ∙ ap (λ g. replay (replay t g) behind) same) bad

  -- ---- two readings of the same bytes

  same_count : (t : Replayed) (ps qs : List (List ℕ)) (r s : List ℕ) (gs hs : List Logged) → frames ps ++ r ≡ frames qs ++ s → All IsPayload ps → All IsPayload qs → SpellAll k ps gs → SpellAll k qs hs → MayReplay t gs → MayReplay t hs
      → IsBadAt k (replay t gs) r → IsBadAt k (replay t hs) s → length ps ≡ length qs
  same_count t [] [] r s gs hs e p_fit q_fit p_spelled q_spelled p_may q_may p_bad q_bad = refl
  same_count t [] (q ∷ qs) r s gs hs e p_fit q_fit p_spelled q_spelled p_may q_may p_bad q_bad = absurd (no_bad_first k t q qs s r gs hs p_spelled q_fit q_spelled q_may e p_bad)
  same_count t (p ∷ ps) [] r s gs hs e p_fit q_fit p_spelled q_spelled p_may q_may p_bad q_bad = absurd (no_bad_first k t p ps r s hs gs q_spelled p_fit p_spelled p_may (sym e) q_bad)
  same_count t (p ∷ ps) (q ∷ qs) r s gs hs e p_fit q_fit p_spelled q_spelled p_may q_may p_bad q_bad =
      let first = same_first p q ps qs r s (All-head IsPayload p ps p_fit).short (All-head IsPayload q qs q_fit).short e in
      let same = same_front p q p_spelled.0 q_spelled.0 first.0 p_spelled.3 q_spelled.3 in
      let rest = same_count (replay t q_spelled.0) ps qs r s p_spelled.1 q_spelled.1 first.1 (All-tail IsPayload p ps p_fit) (All-tail IsPayload q qs q_fit) p_spelled.4 q_spelled.4
      (may_rest t p_spelled.0 q_spelled.0 p_spelled.1 gs same p_spelled.2 p_may) (may_rest t q_spelled.0 q_spelled.0 q_spelled.1 hs refl q_spelled.2 q_may)
      (bad_rest t p_spelled.0 q_spelled.0 p_spelled.1 gs r same p_spelled.2 p_bad) (bad_rest t q_spelled.0 q_spelled.0 q_spelled.1 hs s refl q_spelled.2 q_bad) in
      omega (arith, rest)

  -- frames that are read to an end and replayed, against frames before a bad one
  not_both : (t : Replayed) (ps qs : List (List ℕ)) (r s : List ℕ) (gs hs : List Logged) → frames ps ++ r ≡ frames qs ++ s → All IsPayload ps → All IsPayload qs → IsEnd r → SpellAll k ps gs → SpellAll k qs hs → MayReplay t gs
      → IsBadAt k (replay t hs) s → ⊥
  not_both t [] [] r s gs hs e p_fit q_fit end p_spelled q_spelled may bad = no_bad_at_end k (replay t hs) s (subst IsEnd e end) bad
  not_both t [] (q ∷ qs) r s gs hs e p_fit q_fit end p_spelled q_spelled may bad =
      no_head_at_end (length q) (q ++ (frames qs ++ s)) r end (e ∙ append_assoc (frame_bytes q) (frames qs) s ∙ head_of q (frames qs ++ s))
  not_both t (p ∷ ps) [] r s gs hs e p_fit q_fit end p_spelled q_spelled may bad = no_bad_first k t p ps r s hs gs q_spelled p_fit p_spelled may (sym e) bad
  not_both t (p ∷ ps) (q ∷ qs) r s gs hs e p_fit q_fit end p_spelled q_spelled may bad =
      let first = same_first p q ps qs r s (All-head IsPayload p ps p_fit).short (All-head IsPayload q qs q_fit).short e in
      let same = same_front p q p_spelled.0 q_spelled.0 first.0 p_spelled.3 q_spelled.3 in
      not_both (replay t q_spelled.0) ps qs r s p_spelled.1 q_spelled.1 first.1 (All-tail IsPayload p ps p_fit) (All-tail IsPayload q qs q_fit) end p_spelled.4 q_spelled.4
      (may_rest t p_spelled.0 q_spelled.0 p_spelled.1 gs same p_spelled.2 may) (bad_rest t q_spelled.0 q_spelled.0 q_spelled.1 hs s refl q_spelled.2 bad)

-- no group is bad where all may be replayed
pub no_bad_group : OneList → (bytes : List ℕ) (turn : ℕ) (said : Meta) (payloads : List (List ℕ)) (groups : List Logged) (frame : ℕ) → HasGroups bytes turn said payloads groups → HasBadGroup bytes turn said frame → ⊥
no_bad_group once bytes turn said payloads groups frame log bad =
    not_both once said.k (untouched said) payloads bad.before log.framed.rest bad.rest groups bad.groups (sym log.framed.bytes ∙ bad.framed) log.framed.payloads_fit bad.payloads_fit log.framed.at_end
    log.spelled bad.spelled log.replayed bad.bad

-- no two numbers are that of the first bad group
pub one_bad_group : OneList → (bytes : List ℕ) (turn : ℕ) (said : Meta) (f g : ℕ) → HasBadGroup bytes turn said f → HasBadGroup bytes turn said g → f ≡ g
one_bad_group once bytes turn said f g here there =
    here.counted
    ∙ same_count once said.k (untouched said) here.before there.before here.rest there.rest here.groups there.groups (sym here.framed ∙ there.framed) here.payloads_fit there.payloads_fit here.spelled there.spelled here.replayed there.replayed here.bad
    there.bad ∙ sym there.counted
