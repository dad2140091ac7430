-- The order's text in pieces.
use Rattle.std.proofs.Common.{◌≡◌, ℕ, ◌+◌, ◌<◌, List, [], ◌∷◌, ◌++◌, length, take, drop, get_or, true, Option, Result, Err, sym, subst, ap, ◌∙◌, append_assoc}
use Rattle.std.specs.Prelude.{codes, nat_lt, if◌then◌else◌}
use Rattle.std.specs.Fmt.{decimal}
use Rattle.std.proofs.lemmas.List.{take-append-drop, flat_map_more}
use Rattle.std.proofs.lemmas.Grind.{flat_map-append, take_at_read}
use Rattle.std.specs.Result.{IsErr}
use Rattle.hb_outside.specs.Calls.{Counts, Puts, SinkModel}
use Rattle.hb_outside.specs.Streams.{AppendsFront}
use Rattle.hb_text.specs.Output.{numbers_text, order_text}
use Rattle.hb_text.specs.Waiting.{Waits, Buffers}
use Rattle.hb_outside.proofs.Facts.PutLaws.{AppendsFront-longer, Puts-failed}
use Rattle.hb_text.proofs.Facts.OutputLaws.{Waits-more, Waits-then, Waits-front}

-- numbers that end early are a front of all
pub numbers_end_early : (a c : Option (List ℕ)) (before ns : List ℕ) (i : ℕ) → AppendsFront a c (before ++ numbers_text (take i ns)) → AppendsFront a c (before ++ numbers_text ns)
numbers_end_early a c before ns i h =
    let parts : numbers_text ns ≡ numbers_text (take i ns) ++ numbers_text (drop i ns) =
    ap numbers_text (sym (take-append-drop i ns)) ∙ flat_map-append (λ n. 32 ∷ decimal n) (take i ns) (drop i ns) in
    rw (parts, ← append_assoc before (numbers_text (take i ns)) (numbers_text (drop i ns)))
    (AppendsFront-longer a c (before ++ numbers_text (take i ns)) (numbers_text (drop i ns)) h)

-- one number more
pub number_added : {a c : Option (List ℕ)} {waiting : List ℕ} (before ns : List ℕ) (i n : ℕ) (longer : List ℕ) → Waits a c waiting (before ++ numbers_text (take i ns)) → i < length ns → n ≡ get_or ns i 0 → longer ≡ waiting ++ 32 ∷ decimal n → Waits a c longer (before ++ numbers_text (take (i + 1) ns))
number_added before ns i n longer w lt at e =
    let text : (before ++ numbers_text (take i ns)) ++ (32 ∷ decimal (get_or ns i 0)) ≡ before ++ numbers_text (take (i + 1) ns) =
    flat_map_more (λ n. 32 ∷ decimal n) before (take i ns) (get_or ns i 0) ∙ ap (λ l. before ++ numbers_text l) (sym (take_at_read ns i 0 lt).1) in
    rw (e, at, ← text) (Waits-more w (32 ∷ decimal (get_or ns i 0)))

-- a call that failed behind others that didn't
pub counts_from : {a b c : ℕ} → b ≡ a → Counts (true ≡ true) b c → Counts (true ≡ true) a c
counts_from {c = c} same counts = subst (λ (n : ℕ). Counts (true ≡ true) n c) same counts

-- the order ends among the settled lines
pub order_ends_settled : {T E U F : Type 0} {e : E} {waiting : List ℕ} (r : Result U F) (a b : SinkModel) (order : List ℕ) (settled : ℕ) (head front : List ℕ) → IsErr r → head ≡ codes "order" → front ≡ take settled order
    → Buffers {T = T} (head ++ numbers_text front) waiting (Err e) a b → Puts (order_text order settled) r a b
order_ends_settled r a b order settled head front bad is_head is_front h =
    let bar = (if nat_lt settled (length order) then codes " |" else []) in
    let start = codes "order" ++ numbers_text (take settled order) in
    let rest = numbers_text (drop settled order) in
    let begun : AppendsFront a.written b.written start = rw (is_head, is_front) at h.tried in
    let longer = AppendsFront-longer a.written b.written in
    Puts-failed r a b (order_text order settled) bad (longer ((start ++ bar) ++ rest) (codes "\n") (longer (start ++ bar) rest (longer start bar begun))) h.counts

-- the order ends behind them
pub order_ends_later : {T E U F : Type 0} {e : E} {waiting later : List ℕ} (r : Result U F) (a b c : SinkModel) (order : List ℕ) (settled : ℕ) (head front bar rest more : List ℕ) → IsErr r
    → Waits a.written b.written waiting (head ++ numbers_text front) → b.faults ≡ a.faults → head ≡ codes "order" → front ≡ take settled order → bar ≡ (if nat_lt settled (length order) then codes " |" else []) → more ≡ waiting ++ bar → rest ≡ drop settled order
    → Buffers {T = T} (more ++ numbers_text rest) later (Err e) b c → Puts (order_text order settled) r a c
order_ends_later {waiting = waiting} r a b c order settled head front bar rest more bad w same is_head is_front is_bar is_more is_rest h =
    let the_bar = (if nat_lt settled (length order) then codes " |" else []) in
    let start = codes "order" ++ numbers_text (take settled order) in
    let the_rest = numbers_text (drop settled order) in
    let begun : Waits a.written b.written waiting start = rw (is_head, is_front) at w in
    let ended : AppendsFront b.written c.written ((waiting ++ the_bar) ++ the_rest) = rw (is_more, is_bar, is_rest) at h.tried in
    Puts-failed r a c (order_text order settled) bad
    (AppendsFront-longer a.written c.written ((start ++ the_bar) ++ the_rest) (codes "\n") (Waits-front c.written (Waits-more (Waits-more begun the_bar) the_rest) ended))
    (counts_from same h.counts)

-- what waits at the end, with a line feed, is the rest of the order
pub order_waits : {a b c : Option (List ℕ)} {waiting later : List ℕ} (order : List ℕ) (settled : ℕ) (head front bar rest more last : List ℕ) → Waits a b waiting (head ++ numbers_text front) → head ≡ codes "order" → front ≡ take settled order → bar ≡ (if nat_lt settled (length order) then codes " |" else []) → more ≡ waiting ++ bar → rest ≡ drop settled order → Waits b c later (more ++ numbers_text rest) → last ≡ later ++ codes "\n" → Waits a c last (order_text order settled)
order_waits {a = a} {b = b} {c = c} {waiting = waiting} {later = later} order settled head front bar rest more last w is_head is_front is_bar is_more is_rest v is_last =
    let the_bar = (if nat_lt settled (length order) then codes " |" else []) in
    let start = codes "order" ++ numbers_text (take settled order) in
    let the_rest = numbers_text (drop settled order) in
    let w' : Waits a b waiting start = rw (is_head, is_front) at w in
    let v' : Waits b c later ((waiting ++ the_bar) ++ the_rest) = rw (is_more, is_bar, is_rest) at v in
    rw is_last (Waits-more (Waits-then (Waits-more (Waits-more w' the_bar) the_rest) v') (codes "\n"))
