-- The steps that the words of a step line say are actors.
use Rattle.std.specs.Prelude.{◌≡◌, ℕ, zero, suc, ◌==◌, List, [], ◌∷◌, replicate, Option, Some, None, refl, codes, if◌then◌else◌}
use Rattle.std.proofs.Common.{inl, inr, arith, subst}
use Rattle.std.specs.List.{AllByRecursion, slice_split}
use Rattle.std.specs.Str.{bytes_eq}
use Rattle.hb_space.specs.Actors.{IsActor}
use Rattle.hb_text.specs.Numbers.{number_read}
use Rattle.hb_text.specs.StepWords.{actor_of, count_number, repeated, steps_of_parts, word_steps, joined_steps, steps_of, session_of}
use Rattle.hb_lemmas.proofs.Booleans.{chosen}
use Rattle.std.proofs.lemmas.Option.{same_Some}
use Rattle.hb_lemmas.proofs.Lists.{whole}
use Rattle.hb_text.proofs.Facts.LineLaws.{session_fits}

abbrev pub AreActors : List ℕ → Type 0
AreActors steps = AllByRecursion IsActor steps

all_same : (n a : ℕ) → IsActor a → AreActors (replicate n a)
all_same zero a h = tt
all_same (suc n) a h = (h, all_same n a h)

word_is_actor : (word : List ℕ) (a : ℕ) → actor_of word ≡ Some a → IsActor a
word_is_actor word a e =
    let f = if bytes_eq word (codes "f") then Some 19 else session_of word in
    let c = if bytes_eq word (codes "c") then Some 18 else f in
    elim (chosen (bytes_eq word (codes "p")) (Some 17) c (Some a) e) [
      | inl p ↦ let same : 17 ≡ a = same_Some _ _ p.1 in record { from_1 = omega (arith, same); to_19 = omega (arith, same) }
      | inr q ↦ elim (chosen (bytes_eq word (codes "c")) (Some 18) f (Some a) q.1) [
        | inl p ↦ let same : 18 ≡ a = same_Some _ _ p.1 in record { from_1 = omega (arith, same); to_19 = omega (arith, same) }
        | inr r ↦ elim (chosen (bytes_eq word (codes "f")) (Some 19) (session_of word) (Some a) r.1) [
          | inl p ↦ let same : 19 ≡ a = same_Some _ _ p.1 in record { from_1 = omega (arith, same); to_19 = omega (arith, same) }
          | inr s ↦ let session = session_fits (number_read word) a s.1 in record { from_1 = session.0; to_19 = omega (arith, session.1) }
        ]
      ]
    ]

repeated_actors : (actor count : Option ℕ) (steps : List ℕ) → ((a : ℕ) → actor ≡ Some a → IsActor a) → repeated actor count ≡ Some steps → AreActors steps
repeated_actors (Some a) (Some n) steps is e = subst AreActors (same_Some _ _ e) (all_same n a (is a refl))
repeated_actors (Some a) None steps is e = cc
repeated_actors None count steps is e = cc

parts_actors : (parts : List (List ℕ)) (steps : List ℕ) → steps_of_parts parts ≡ Some steps → AreActors steps
parts_actors [] steps e = cc
parts_actors (actor ∷ []) steps e = repeated_actors (actor_of actor) (Some 1) steps (λ a is. word_is_actor actor a is) e
parts_actors (actor ∷ count ∷ []) steps e = repeated_actors (actor_of actor) (count_number (number_read count)) steps (λ a is. word_is_actor actor a is) e
parts_actors (actor ∷ count ∷ more ∷ rest) steps e = cc

joined_actors : (one more : Option (List ℕ)) (steps : List ℕ) → ((s : List ℕ) → one ≡ Some s → AreActors s) → ((s : List ℕ) → more ≡ Some s → AreActors s) → joined_steps one more ≡ Some steps → AreActors steps
joined_actors (Some one) (Some more) steps f g e = subst AreActors (same_Some _ _ e) (whole IsActor one more (f one refl) (g more refl))
joined_actors (Some one) None steps f g e = cc
joined_actors None more steps f g e = cc

pub words_actors : (words : List (List ℕ)) (steps : List ℕ) → steps_of words ≡ Some steps → AreActors steps
words_actors [] steps e = subst AreActors (same_Some _ _ e) tt
words_actors (word ∷ words) steps e = joined_actors (word_steps word) (steps_of words) steps (λ s is. parts_actors (slice_split (λ c. c == 120) word) s is) (λ s is. words_actors words s is) e
