-- A text that is read piece by piece.
use Rattle.std.proofs.Common.{◌≡◌, ℕ, ◌+◌, ◌-◌, ◌<◌, ◌≤◌, ◌⊎◌, inl, inr, List, [], ◌++◌, length, take, drop, Option, Some, None, refl, sym, ap, ◌∙◌, arith, subst, ⊎_elim, Bool, true, false, cond, length-append, length-drop, length-take, drop-drop, take-add}
use Rattle.std.proofs.lemmas.List.{drop_all, take_all, length-take-le}
use Rattle.hbpi.specs.Taking.{TakesPiece, TakesSoFar, IsAtEnd}
use Rattle.hbpi.specs.Outcome.{IsTextOf, IsWholeText, greatest_text}

-- nothing was taken yet
pub none_taken : (left : Option (List ℕ)) → TakesSoFar left left []
none_taken None = refl
none_taken (Some left) = (omega arith, refl, refl)

-- the front that was taken and a piece of what was left are a longer front
joined : (left old new : List ℕ) (n : ℕ) → length old ≤ length left → old ≡ take (length old) left → n ≤ length (drop (length old) left) → new ≡ old ++ take n (drop (length old) left) → (length new ≡ length old + n) × (new ≡ take (length old + n) left)
joined left old new n within front room is =
    let piece_length : length (take n (drop (length old) left)) ≡ n = length-take-le n _ room in (
      omega (arith, ap length is, length-append old (take n (drop (length old) left)), piece_length),
      is ∙ ap (λ xs. xs ++ take n (drop (length old) left)) front ∙ sym (take-add (length old) n left),
    )

-- one piece more
pub piece_joins : (first before after : Option (List ℕ)) (old new : List ℕ) → TakesSoFar first before old → TakesPiece before after old new → TakesSoFar first after new
piece_joins None before after old new so_far piece = subst (λ (b : Option (List ℕ)). TakesPiece b after old new) so_far piece
piece_joins (Some left) before after old new so_far piece =
    let taken = subst (λ (b : Option (List ℕ)). TakesPiece b after old new) so_far.2 piece in
    let n = taken.0 in
    let more = joined left old new n so_far.0 so_far.1 taken.1 taken.2 in (
      omega (arith, more.0, taken.1, length-drop (length old) left, so_far.0),
      rw more.0 more.1,
      rw more.0 (taken.3 ∙ ap Some (drop-drop n (length old) left)),
    )

-- at the end of the source the front is all of it
pub all_taken : (left text : List ℕ) (n : ℕ) → length text ≤ length left → text ≡ take (length text) left → length text ≤ n → (n ≤ length text) ⊎ (drop (length text) left ≡ []) → (text ≡ take n left) × (drop (length text) left ≡ drop n left)
all_taken left text n within front room (inl long) =
    let same : length text ≡ n = omega arith in
    (front ∙ ap (λ m. take m left) same, ap (λ m. drop m left) same)
all_taken left text n within front room (inr ended) =
    let none : length left ≤ length text = omega (arith, length-drop (length text) left, ap length ended) in
    (front ∙ take_all (length text) left none ∙ sym (take_all n left (omega arith)), ended ∙ sym (drop_all n left (omega arith)))

ended_is : (left text : List ℕ) (after : Option (List ℕ)) → after ≡ Some (drop (length text) left) → IsAtEnd after → drop (length text) left ≡ []
ended_is left text after is ended = subst IsAtEnd is ended

-- the text is whole
pub text_whole : (first after : Option (List ℕ)) (text : List ℕ) → TakesSoFar first after text → length text ≤ 257000001 → (257000001 ≤ length text) ⊎ IsAtEnd after → IsTextOf first after text
unfolding greatest_text
text_whole None after text so_far room ended = so_far
text_whole (Some left) after text so_far room ended =
    let whole = all_taken left text 257000001 so_far.0 so_far.1 room (⊎_elim inl (λ e. inr (ended_is left text after so_far.2 e)) ended) in
    (whole.0, so_far.2 ∙ ap Some whole.1)

-- each turn takes bytes, or is the last
pub turns_fall : (before after : Bool) (n m most : ℕ) → before ≡ true → n < most → n ≤ m → (after ≡ true → n < m) → m ≤ most → cond after 1 0 + (most - m) < cond before 1 0 + (most - n)
turns_fall true true n m most on room kept grows within = omega (arith, grows refl)
turns_fall true false n m most on room kept grows within = omega arith
turns_fall false after n m most on room kept grows within = cc

-- a text that is shorter than the greatest is all that there was
pub short_is_whole : (first after : Option (List ℕ)) (text : List ℕ) → IsTextOf first after text → length text ≤ 257000000 → IsWholeText first after text
unfolding greatest_text
short_is_whole None after text read short = read
short_is_whole (Some left) after text read short =
    let within : length left ≤ 257000001 = omega (arith, ap length read.0, length-take 257000001 left, short) in
    (read.0 ∙ take_all 257000001 left within, read.1 ∙ ap Some (drop_all 257000001 left within))
