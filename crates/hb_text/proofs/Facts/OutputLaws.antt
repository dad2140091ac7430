-- A text that is put from a buffer, and the pieces of a list of items.
use Rattle.std.proofs.Common.{◌≡◌, ℕ, ◌+◌, ◌<◌, true, false, List, [], ◌∷◌, ◌++◌, length, take, drop, get_or, Option, Result, Ok, Err, ap, subst, sym, ◌∙◌, append-nil, append_assoc}
use Rattle.std.specs.List.{flat_map}
use Rattle.std.specs.Result.{IsErr}
use Rattle.std.proofs.lemmas.Bool.{false≢true}
use Rattle.std.proofs.lemmas.List.{take_more, take-append-drop}
use Rattle.std.proofs.lemmas.Grind.{flat_map-append}
use Rattle.hb_outside.specs.Calls.{Counts, Puts, SinkModel}
use Rattle.hb_outside.specs.Streams.{Appends, AppendsFront}
use Rattle.hb_outside.proofs.Facts.PutLaws.{Appends-both, Appends-front}
use Rattle.hb_text.specs.Waiting.{Waits, Buffers}

-- what is added to the rest is added to the text
pub Waits-more : {a b : Option (List ℕ)} {waiting text : List ℕ} → Waits a b waiting text → (more : List ℕ) → Waits a b (waiting ++ more) (text ++ more)
Waits-more {waiting = waiting} w more =
    record { front = w.front; is_text = sym (append_assoc w.front waiting more) ∙ ap (λ x. x ++ more) w.is_text; is_put = w.is_put }

-- of the rest too a front was put
pub Waits-then : {a b c : Option (List ℕ)} {rest waiting text : List ℕ} → Waits a b waiting text → Waits b c rest waiting → Waits a c rest text
Waits-then {a = a} {b = b} {c = c} {rest = rest} v w =
    record {
      front = v.front ++ w.front;
      is_text = append_assoc v.front w.front rest ∙ ap (λ x. v.front ++ x) w.is_text ∙ v.is_text;
      is_put = Appends-both a b c v.front w.front v.is_put w.is_put;
    }

-- once the rest was put, the text was
pub Waits-done : {a b : Option (List ℕ)} {waiting text : List ℕ} → (c : Option (List ℕ)) → Waits a b waiting text → Appends b c waiting → Appends a c text
Waits-done {a = a} {b = b} {waiting = waiting} c w last =
    let P : List ℕ → Type 0 = λ x. Appends a c x in
    subst P w.is_text (Appends-both a b c w.front waiting w.is_put last)

-- where only a front of the rest was, a front of the text was
pub Waits-front : {a b : Option (List ℕ)} {waiting text : List ℕ} → (c : Option (List ℕ)) → Waits a b waiting text → AppendsFront b c waiting → AppendsFront a c text
Waits-front {a = a} {b = b} {waiting = waiting} c w last =
    let P : List ℕ → Type 0 = λ x. AppendsFront a c x in
    subst P w.is_text (Appends-front a b c w.front waiting w.is_put last)

-- the rest is put behind it, whole or in front
pub Waits-put : {T E : Type 0} {waiting text : List ℕ} (r : Result T E) (a b c : SinkModel) → Waits a.written b.written waiting text → b.faults ≡ a.faults → Puts waiting r b c → Puts text r a c
Waits-put (Ok x) a b c w same last = record { done = Waits-done c.written w last.done; tried = tt; counts = subst (λ (n : ℕ). Counts (false ≡ true) n c.faults) same last.counts }
Waits-put (Err e) a b c w same last = record { done = tt; tried = Waits-front c.written w last.tried; counts = subst (λ (n : ℕ). Counts (true ≡ true) n c.faults) same last.counts }

-- a call that failed behind a front of a text
pub Buffers-failed : {T E : Type 0} (r : Result T E) (a b : SinkModel) (text waiting : List ℕ) → IsErr r → AppendsFront a.written b.written text → Counts (true ≡ true) a.faults b.faults → Buffers text waiting r a b
Buffers-failed (Ok x) a b text waiting bad front counts = absurd (false≢true bad)
Buffers-failed (Err e) a b text waiting bad front counts = record { done = tt; tried = front; counts = counts }

-- the pieces of the items before one, and that one's
pub flat_map-next : {X : Type 0} (f : X → List ℕ) (xs : List X) (i : ℕ) (x : X) → i < length xs → x ≡ get_or xs i x → flat_map f (take i xs) ++ f x ≡ flat_map f (take (i + 1) xs)
flat_map-next f xs i x lt at =
    sym (ap (flat_map f) (take_more xs i x lt ∙ ap (λ y. take i xs ++ y ∷ []) (sym at)) ∙ flat_map-append f (take i xs) (x ∷ []) ∙ ap (λ t. flat_map f (take i xs) ++ t) (append-nil (f x)))

-- and those of all behind it
pub flat_map-at : {X : Type 0} (f : X → List ℕ) (xs : List X) (i : ℕ) (x : X) → i < length xs → x ≡ get_or xs i x → (flat_map f (take i xs) ++ f x) ++ flat_map f (drop (i + 1) xs) ≡ flat_map f xs
flat_map-at f xs i x lt at =
    ap (λ t. t ++ flat_map f (drop (i + 1) xs)) (flat_map-next f xs i x lt at)
    ∙ sym (flat_map-append f (take (i + 1) xs) (drop (i + 1) xs)) ∙ ap (flat_map f) (take-append-drop (i + 1) xs)
