-- Writes one after another, by the bytes of the writer that are known.
use Rattle.std.proofs.Common.{ℕ, ◌+◌, ◌-◌, List, ◌++◌, length, take, drop, Option, None, Some, sym, ap, ◌∙◌, subst, append_assoc}
use Rattle.std.proofs.lemmas.List.{take-append-drop, take_rest}
use Rattle.std.proofs.Math.Seq.{take-add}
use Rattle.std.specs.Io.KnownBytes.{Keeps, Appends}
use Rattle.hb_outside.specs.Told.{AppendsSome}

-- writes one after another
pub Appends-Appends : (a b c : Option (List ℕ)) (front back : List ℕ) → Appends a b front → Appends b c back → Appends a c (front ++ back)
Appends-Appends None b c front back h k = tt
Appends-Appends (Some xs) None c front back h k = absurd h
Appends-Appends (Some xs) (Some ys) None front back h k = absurd k
Appends-Appends (Some xs) (Some ys) (Some zs) front back h k = k ∙ ap (λ (l : List ℕ). l ++ back) h ∙ append_assoc xs front back

-- a write that failed
pub Appends-Keeps : (a b c : Option (List ℕ)) (bytes : List ℕ) → Appends a b bytes → Keeps b c → Appends a c bytes
Appends-Keeps None b c bytes h k = tt
Appends-Keeps (Some xs) None c bytes h k = absurd h
Appends-Keeps (Some xs) (Some ys) None bytes h k = absurd k
Appends-Keeps (Some xs) (Some ys) (Some zs) bytes h k = k ∙ h

-- a write of the rest of the piece from a place on
pub Appends-more : (a b c : Option (List ℕ)) (piece : List ℕ) (at n : ℕ) → Appends a b (take at piece)
    → Appends b c (take n (take (length piece - at) (drop at piece))) → Appends a c (take (at + n) piece)
Appends-more a b c piece at n h k =
    let rest : Appends b c (take n (drop at piece)) = subst (λ (bytes : List ℕ). Appends b c (take n bytes)) (take_rest piece at) k in
    subst (λ (bytes : List ℕ). Appends a c bytes) (sym (take-add at n piece)) (Appends-Appends a b c (take at piece) (take n (drop at piece)) h rest)

-- what was written so far is a front of the piece
pub AppendsSome-front : (a b : Option (List ℕ)) (piece : List ℕ) (at : ℕ) → Appends a b (take at piece) → AppendsSome a b piece
AppendsSome-front a b piece at h = (take at piece, (drop at piece, take-append-drop at piece), h)
