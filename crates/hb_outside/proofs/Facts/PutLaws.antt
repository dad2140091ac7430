-- Pieces that are put one after the other.
use Rattle.std.proofs.Common.{◌≡◌, ℕ, List, [], ◌++◌, Option, Some, None, Result, IsErr, Ok, Err, refl, sym, ap, subst, ◌∙◌, append_assoc, append-nil, true, arith}
use Rattle.std.proofs.lemmas.Bool.{false≢true}
use Rattle.hb_outside.specs.Calls.{Counts, SinkModel, Puts, PutsOn}
use Rattle.hb_outside.specs.Streams.{Appends, AppendsFront}
use Rattle.hb_outside.proofs.Facts.CountLaws.{Counts-same, Counts-then}

-- two pieces that were put are their join
pub Appends-both : (a b c : Option (List ℕ)) (p q : List ℕ) → Appends a b p → Appends b c q → Appends a c (p ++ q)
Appends-both None b c p q first then = let P : Option (List ℕ) → Type 0 = λ x. Appends x c q in subst P first then
Appends-both (Some w) b c p q first then =
    let P : Option (List ℕ) → Type 0 = λ x. Appends x c q in
    let e : c ≡ Some ((w ++ p) ++ q) = subst P first then in
    e ∙ ap Some (append_assoc w p q)

-- a piece that was put and a front of the next are a front of their join
pub Appends-front : (a b c : Option (List ℕ)) (p q : List ℕ) → Appends a b p → AppendsFront b c q → AppendsFront a c (p ++ q)
Appends-front a b c p q first then =
    (p ++ then.0, ((then.1).0, append_assoc p then.0 (then.1).0 ∙ ap (λ x. p ++ x) (then.1).1), Appends-both a b c p then.0 first then.2)

-- a front of a piece is a front of that piece and more
pub AppendsFront-longer : (a b : Option (List ℕ)) (p q : List ℕ) → AppendsFront a b p → AppendsFront a b (p ++ q)
AppendsFront-longer a b p q h =
    (h.0, ((h.1).0 ++ q, sym (append_assoc h.0 (h.1).0 q) ∙ ap (λ x. x ++ q) (h.1).1), h.2)

-- no call puts nothing
pub Appends-none : (a : Option (List ℕ)) → Appends a a []
Appends-none None = refl
Appends-none (Some w) = sym (ap Some (append-nil w))

pub Puts-none : {T E : Type 0} {x : T} (a : SinkModel) → Puts {T = T} {E = E} [] (Ok x) a a
Puts-none a = record { done = Appends-none a.written; tried = tt; counts = Counts-same (λ e. false≢true e) refl }

-- a put behind one that didn't fail puts both pieces
pub Puts-then : {T E U F : Type 0} {x : T} (second : Result U F) (a b c : SinkModel) (p q : List ℕ) → Puts {T = T} {E = E} p (Ok x) a b → Puts q second b c → Puts (p ++ q) second a c
Puts-then (Ok y) a b c p q one two = record {
  done = Appends-both a.written b.written c.written p q one.done two.done;
  tried = tt;
  counts = Counts-then (λ e. false≢true e) one.counts two.counts;
}
Puts-then (Err e) a b c p q one two = record {
  done = tt;
  tried = Appends-front a.written b.written c.written p q one.done two.tried;
  counts = Counts-then (λ e. false≢true e) one.counts two.counts;
}

-- a call that failed behind a front of a piece
pub Puts-failed : {T E : Type 0} (r : Result T E) (a b : SinkModel) (p : List ℕ) → IsErr r → AppendsFront a.written b.written p → Counts (true ≡ true) a.faults b.faults → Puts p r a b
Puts-failed (Ok x) a b p bad front counts = absurd (false≢true bad)
Puts-failed (Err e) a b p bad front counts = record { done = tt; tried = front; counts = counts }

-- a put that failed is a failed put of anything longer, whatever its error is handed on as
pub Puts-longer : {T E U F : Type 0} {e : E} (r : Result U F) (a b : SinkModel) (p q whole : List ℕ) → IsErr r → p ++ q ≡ whole → Puts {T = T} p (Err e) a b → Puts whole r a b
Puts-longer r a b p q whole bad is one = Puts-failed r a b whole bad (subst (AppendsFront a.written b.written) is (AppendsFront-longer a.written b.written p q one.tried)) one.counts

-- ---- puts on a sink that may have failed before

-- nothing is put
pub puts_none : {T E : Type 0} (so_far : Result T E) (a : SinkModel) → PutsOn so_far [] so_far a a
puts_none (Ok x) a = record { put = Puts-none a; left = tt; later = omega arith }
puts_none (Err e) a = record { put = tt; left = (refl, refl); later = omega arith }

-- a piece where none failed before, and where one did
pub puts_on : {T E : Type 0} {x : T} (so_far result : Result T E) (a b : SinkModel) (piece : List ℕ) → so_far ≡ Ok x → Puts piece result a b → PutsOn so_far piece result a b
puts_on {T = T} {E = E} so_far result a b piece is put =
    subst (λ (r : Result T E). PutsOn r piece result a b) (sym is) (record { put = put; left = tt; later = put.counts.later })

pub puts_off : {T E : Type 0} {e : E} (so_far result : Result T E) (a : SinkModel) (piece : List ℕ) → so_far ≡ Err e → IsErr result → PutsOn so_far piece result a a
puts_off {T = T} {E = E} so_far result a piece is failed =
    subst (λ (r : Result T E). PutsOn r piece result a a) (sym is) (record { put = tt; left = (refl, failed); later = omega arith })

-- one piece more, unless the sink failed before
pub has_put_more : {T E : Type 0} (a b c : SinkModel) (so_far next : Result T E) (text piece : List ℕ) → Puts text so_far a b → PutsOn so_far piece next b c → Puts (text ++ piece) next a c
has_put_more a b c (Ok x) next text piece put more = Puts-then next a b c text piece put more.put
has_put_more {T = T} {E = E} a b c (Err e) next text piece put more =
    subst (λ (k : SinkModel). Puts (text ++ piece) next a k) (sym more.left.0) (Puts-longer next a b text piece (text ++ piece) more.left.1 refl put)

-- two pieces one after the other
pub puts_then : {T E : Type 0} (a b c : SinkModel) (so_far mid next : Result T E) (p q : List ℕ) → PutsOn so_far p mid a b → PutsOn mid q next b c → PutsOn so_far (p ++ q) next a c
puts_then a b c (Ok x) mid next p q first second =
    record { put = has_put_more a b c mid next p q first.put second; left = tt; later = omega (arith, first.later, second.later) }
puts_then a b c (Err e) mid next p q first second = record { put = tt; left = still b c mid next first.left.0 first.left.1 second; later = omega (arith, first.later, second.later) } where
  still : {T E : Type 0} {a : SinkModel} (b c : SinkModel) (mid next : Result T E) {q : List ℕ} → b ≡ a → IsErr mid → PutsOn mid q next b c → (c ≡ a) × IsErr next
  still b c (Ok x) next same bad second = absurd (false≢true bad)
  still b c (Err e) next same bad second = (second.left.0 ∙ same, second.left.1)
