-- The groups that wait, as they are kept: how many bytes they have, how one joins, and all of them as one payload.
use Rattle.std.proofs.Common.{◌≡◌, ◌≢◌, ℕ, ◌+◌, ◌*◌, ◌<◌, ◌≤◌, List, [], ◌∷◌, ◌++◌, length, take, drop, refl, sym, ap, ◌∙◌, arith, length-append, length-take, length-drop}
use Rattle.std.specs.List.{All}
use Rattle.std.proofs.lemmas.List.{take_all, take-append-drop, take-append-le, drop-append-le, nil_from_length}
use Rattle.std.proofs.lemmas.List.Elements.{All-head, All-tail}
use Rattle.hb_wal.specs.declared.groups.Group.{Group}
use Rattle.hb_wal.specs.Log.{Waiting, pending_bytes, framed_bytes, waiting_bytes, forced}
use Rattle.hb_wal.specs.Kept.{waiting_of, total_of}

pub length-waiting_of : (bytes : List ℕ) (groups : List Group) → length (waiting_of bytes groups) ≡ length groups
length-waiting_of bytes [] = refl
length-waiting_of bytes (g ∷ rest) = omega (arith, length-waiting_of (drop g.len bytes) rest)

pub pending-waiting_of : (bytes : List ℕ) (groups : List Group) → total_of groups ≤ length bytes → pending_bytes (waiting_of bytes groups) ≡ total_of groups
pending-waiting_of bytes [] fits = refl
pending-waiting_of bytes (g ∷ rest) fits =
    let cut : length (take g.len bytes) ≡ g.len = omega (arith, length-take g.len bytes, fits) in
    let more = pending-waiting_of (drop g.len bytes) rest (omega (arith, length-drop g.len bytes, fits)) in
    omega (arith, cut, more)

pub framed-pending : (groups : List Waiting) → framed_bytes groups ≡ pending_bytes groups + 5 * length groups
framed-pending [] = refl
framed-pending (g ∷ rest) = omega (arith, framed-pending rest)

pub count-pending : (groups : List Waiting) → All (λ g. 0 < length g.bytes) groups → length groups ≤ pending_bytes groups
count-pending [] all = omega arith
count-pending (g ∷ rest) all = omega (arith, All-head (λ g. 0 < length g.bytes) g rest all, count-pending rest (All-tail (λ g. 0 < length g.bytes) g rest all))

pub total-push : (groups : List Group) (g : Group) → total_of (groups ++ g ∷ []) ≡ total_of groups + g.len
total-push [] g = omega arith
total-push (h ∷ rest) g = omega (arith, total-push rest g)

pub pending-push : (groups : List Waiting) (g : Waiting) → pending_bytes (groups ++ g ∷ []) ≡ pending_bytes groups + length g.bytes
pending-push [] g = omega arith
pending-push (h ∷ rest) g = omega (arith, pending-push rest g)

pub framed-push : (groups : List Waiting) (g : Waiting) → framed_bytes (groups ++ g ∷ []) ≡ framed_bytes groups + length g.bytes + 5
framed-push [] g = omega arith
framed-push (h ∷ rest) g = omega (arith, framed-push rest g)

-- a group joins behind the others
pub waiting-push : (bytes more : List ℕ) (groups : List Group) (g : Group) → length bytes ≡ total_of groups → length more ≡ g.len
    → waiting_of (bytes ++ more) (groups ++ g ∷ []) ≡ waiting_of bytes groups ++ record { bytes = more; mark = g.mark } ∷ []
waiting-push bytes more [] g long fits =
    let none : bytes ≡ [] = nil_from_length bytes long in
    let whole : take g.len (bytes ++ more) ≡ more = ap (λ (l : List ℕ). take g.len (l ++ more)) none ∙ take_all g.len more (omega (arith, fits)) in
    ap (λ (l : List ℕ). record { bytes = l; mark = g.mark } ∷ []) whole
waiting-push bytes more (h ∷ rest) g long fits =
    let front : take h.len (bytes ++ more) ≡ take h.len bytes = take-append-le h.len bytes more (omega (arith, long)) in
    let back : drop h.len (bytes ++ more) ≡ drop h.len bytes ++ more = drop-append-le h.len bytes more (omega (arith, long)) in
    let later = waiting-push (drop h.len bytes) more rest g (omega (arith, length-drop h.len bytes, long)) fits in
    λ i. record { bytes = front i; mark = h.mark } ∷ (ap (λ (l : List ℕ). waiting_of l (rest ++ g ∷ [])) back ∙ later) i

-- ---- all of them

pub length-waiting_bytes : (groups : List Waiting) → length (waiting_bytes groups) ≡ pending_bytes groups
length-waiting_bytes [] = refl
length-waiting_bytes (g ∷ rest) = omega (arith, length-append g.bytes (waiting_bytes rest), length-waiting_bytes rest)

pub waiting_bytes-waiting_of : (bytes : List ℕ) (groups : List Group) → length bytes ≡ total_of groups → waiting_bytes (waiting_of bytes groups) ≡ bytes
waiting_bytes-waiting_of bytes [] long = sym (nil_from_length bytes long)
waiting_bytes-waiting_of bytes (g ∷ rest) long =
    ap (λ (l : List ℕ). take g.len bytes ++ l) (waiting_bytes-waiting_of (drop g.len bytes) rest (omega (arith, length-drop g.len bytes, long))) ∙ take-append-drop g.len bytes

pub count-some : (groups : List Waiting) → groups ≢ [] → 0 < length groups
count-some [] waits = absurd (waits refl)
count-some (g ∷ rest) waits = omega arith

pub forced-some : (groups : List Waiting) → groups ≢ [] → forced groups ≡ waiting_bytes groups ∷ []
forced-some [] waits = absurd (waits refl)
forced-some (g ∷ rest) waits = refl
