-- The words of a line's spelling, and that they say the line.
use Rattle.std.proofs.Common.{◌≡◌, ℕ, ◌+◌, ◌*◌, ◌<◌, ◌≤◌, ◌^◌, ◌==◌, ◌&&◌, true, false, List, [], ◌∷◌, ◌++◌, length, Ok, refl, sym, ap, ◌∙◌, arith, append-nil, append_assoc}
use Rattle.std.specs.Prelude.{map, codes, nat_le}
use Rattle.std.specs.List.{AllByRecursion, list_all}
use Rattle.std.specs.Fmt.{decimal}
use Rattle.std.specs.Str.{bytes_eq}
use Rattle.std.proofs.lemmas.Fmt.{decimal_digit}
use Rattle.std.proofs.lemmas.Grind.{flat_map-append}
use Rattle.std.proofs.lemmas.List.{length-append, length-map, take_at, drop_at}
use Rattle.std.proofs.lemmas.Bool.{eq-eqb, le-leb, and_right}
use Rattle.hb_set.specs.declared.commands.Command.{Command}
use Rattle.hb_set.specs.declared.commands.Command.TheVariants.{Insert, Delete, Lookup, Search}
use Rattle.hb_space.specs.Boxes.{Area}
use Rattle.hb_text.specs.BodyText.{IsVisible}
use Rattle.hb_text.specs.Operands.{lows, highs, pairs_are_ordered, values_read, operands_read, command_read}
use Rattle.hb_text.specs.Output.{numbers_text}
use Rattle.hb_text.proofs.Facts.NumberLaws.{numbers_are_decimal}
use Rattle.hb_gen.specs.Spelling.{side_by_side, command_text}
use Rattle.hb_gen.proofs.PlainWords.{IsPlain, numbers_plain, numbers_length, spaced}
use Rattle.hb_text.proofs.Facts.BodyLaws.{as_it_is}

abbrev pub command_words : Command → List (List ℕ)
command_words (Insert added) = codes "insert" ∷ (map decimal added.key ++ (61 ∷ added.body) ∷ [])
command_words (Delete point) = codes "delete" ∷ map decimal point
command_words (Lookup point) = codes "lookup" ∷ map decimal point
command_words (Search area) = codes "search" ∷ map decimal (side_by_side area.lo area.hi)

numbers_spaced : (ns : List ℕ) → numbers_text ns ≡ spaced (map decimal ns)
numbers_spaced [] = refl
numbers_spaced (n ∷ ns) = ap (λ rest. (32 ∷ decimal n) ++ rest) (numbers_spaced ns)

-- the words behind a verb, of which the last is a body
body_spaced : (verb body : List ℕ) (ns : List ℕ) → ((verb ++ numbers_text ns) ++ 32 ∷ 61 ∷ []) ++ body ≡ verb ++ spaced (map decimal ns ++ (61 ∷ body) ∷ [])
body_spaced verb body ns =
    append_assoc (verb ++ numbers_text ns) (32 ∷ 61 ∷ []) body
    ∙ append_assoc verb (numbers_text ns) (32 ∷ 61 ∷ body)
    ∙ ap (λ text. verb ++ (text ++ 32 ∷ 61 ∷ body)) (numbers_spaced ns)
    ∙ ap (λ last. verb ++ (spaced (map decimal ns) ++ last)) (sym (append-nil (32 ∷ 61 ∷ body)))
    ∙ ap (λ text. verb ++ text) (sym (flat_map-append (λ word. 32 ∷ word) (map decimal ns) ((61 ∷ body) ∷ [])))

pub command_spaced : (command : Command) → command_text command ≡ spaced (command_words command)
command_spaced (Insert added) = body_spaced (codes " insert") added.body added.key
command_spaced (Delete point) = ap (λ rest. codes " delete" ++ rest) (numbers_spaced point)
command_spaced (Lookup point) = ap (λ rest. codes " lookup" ++ rest) (numbers_spaced point)
command_spaced (Search area) = ap (λ rest. codes " search" ++ rest) (numbers_spaced (side_by_side area.lo area.hi))

-- so many values that words can say
pub record AreValues (count : ℕ) (ns : List ℕ) : Type 0 where
  pub number : length ns ≡ count
  pub below : AllByRecursion (λ n. n < 2 ^ 64) ns

pub record IsSaidBody (body : List ℕ) : Type 0 where
  pub few : length body ≤ 32
  pub visible : AllByRecursion IsVisible body

pub record IsSaidBox (k : ℕ) (area : Area) : Type 0 where
  pub values : AreValues (2 * k) (side_by_side area.lo area.hi)
  pub lower : lows (side_by_side area.lo area.hi) ≡ area.lo
  pub upper : highs (side_by_side area.lo area.hi) ≡ area.hi
  pub ordered : pairs_are_ordered (side_by_side area.lo area.hi) ≡ true

-- a command over k attributes that words can say
abbrev pub IsSaid : ℕ → Command → Type 0
IsSaid k (Insert added) = AreValues k added.key × IsSaidBody added.body
IsSaid k (Delete point) = AreValues k point
IsSaid k (Lookup point) = AreValues k point
IsSaid k (Search area) = IsSaidBox k area

verb_plain : (verb : List ℕ) → list_all (λ c. nat_le 33 c && nat_le c 126) verb ≡ true → 0 < length verb → IsPlain verb
verb_plain verb visible some = record { some = some; visible = as_it_is verb visible }

last_plain : (words : List (List ℕ)) (word : List ℕ) → AllByRecursion IsPlain words → IsPlain word → AllByRecursion IsPlain (words ++ word ∷ [])
last_plain [] word before last = (last, tt)
last_plain (first ∷ words) word before last = (before.0, last_plain words word before.1 last)

pub command_plain : (k : ℕ) (command : Command) → IsSaid k command → AllByRecursion IsPlain (command_words command)
command_plain k (Insert added) said =
    (verb_plain (codes "insert") refl (omega arith), last_plain (map decimal added.key) (61 ∷ added.body) (numbers_plain added.key said.0.below) (record { some = omega arith; visible = ((omega arith, omega arith), said.1.visible) }))
command_plain k (Delete point) said = (verb_plain (codes "delete") refl (omega arith), numbers_plain point said.below)
command_plain k (Lookup point) said = (verb_plain (codes "lookup") refl (omega arith), numbers_plain point said.below)
command_plain k (Search area) said = (verb_plain (codes "search") refl (omega arith), numbers_plain (side_by_side area.lo area.hi) said.values.below)

pub command_length : (k : ℕ) (command : Command) → k ≤ 4 → IsSaid k command → length (command_text command) ≤ 200
command_length k (Insert added) few said =
    let key = numbers_length added.key said.0.below in
    omega (arith, length-append ((codes " insert" ++ numbers_text added.key) ++ codes " =") added.body, length-append (codes " insert" ++ numbers_text added.key) (codes " ="), length-append (codes " insert") (numbers_text added.key), key, said.0.number, said.1.few)
command_length k (Delete point) few said = omega (arith, length-append (codes " delete") (numbers_text point), numbers_length point said.below, said.number)
command_length k (Lookup point) few said = omega (arith, length-append (codes " lookup") (numbers_text point), numbers_length point said.below, said.number)
command_length k (Search area) few said =
    omega (arith, length-append (codes " search") (numbers_text (side_by_side area.lo area.hi)), numbers_length (side_by_side area.lo area.hi) said.values.below, said.values.number)

-- what words say
values_back : (ns : List ℕ) → AllByRecursion (λ n. n < 2 ^ 64) ns → values_read (map decimal ns) ≡ Ok ns
unfolding values_read
values_back [] below = refl
values_back (n ∷ ns) below = rw ((numbers_are_decimal (decimal n) n below.0).1 refl, values_back ns below.1) refl

as_many_words : (k : ℕ) (ns : List ℕ) → length ns ≡ k → length (map decimal ns) ≡ k
as_many_words k ns e = length-map ns decimal ∙ e

pub command_back : (k : ℕ) (command : Command) → IsSaid k command → command_read k (command_words command) ≡ Ok command
unfolding command_read operands_read
command_back k (Insert added) said =
    let words = map decimal added.key in
    let last : List (List ℕ) = (61 ∷ added.body) ∷ [] in
    let number = as_many_words k added.key said.0.number in
    let count : length (words ++ last) ≡ k + 1 = omega (arith, length-append words last, number) in
    rw (eq-eqb (length (words ++ last)) (k + 1) count, take_at words last k number, drop_at words last k number, values_back added.key said.0.below, le-leb (length added.body) 32 said.1.few) refl
command_back k (Delete point) said =
    rw (eq-eqb (length (map decimal point)) k (as_many_words k point said.number), values_back point said.below) refl
command_back k (Lookup point) said =
    rw (eq-eqb (length (map decimal point)) k (as_many_words k point said.number), values_back point said.below) refl
command_back k (Search area) said =
    let values = side_by_side area.lo area.hi in
    rw (eq-eqb (length (map decimal values)) (2 * k) (as_many_words (2 * k) values said.values.number), values_back values said.values.below, said.ordered, said.lower, said.upper) refl

-- the word of a session from 1 to 8: it is no `step`, and says that session
pub no_step : (session : ℕ) → session < 10 → bytes_eq (decimal session) (codes "step") ≡ false
no_step session small = rw (decimal_digit session small) (and_right (48 + session == 115) false refl)
