-- What follows from the definitions of legal orders.
use Rattle.std.proofs.Common.{◌≡◌, List, [], ◌∷◌, ◌++◌, refl, sym, ap, subst, ◌∙◌}
use Rattle.hb_lemmas.proofs.Lists.{parts}
use Rattle.hb_set.specs.declared.scripts.Line.{Line}
use Rattle.hb_set.specs.Machine.{RecordSet, reply_of, set_after}
use Rattle.hb_set.specs.Laws.{OneAnswer, PartsAreLegal, ResultIsByParts, RepliesAreByParts, RepliesGrow, ResultGrows}
use Rattle.hb_set.specs.Order.{Entry, AreReplies, result_of, order_lines, MayPrecede, KeepsSessions}
use Rattle.std.proofs.lemmas.List.Sums.{fold-append}

-- lists of the same lines that both have the machine's replies are one
pub same_entries : (m : RecordSet) (es fs : List Entry) → order_lines es ≡ order_lines fs → AreReplies m es → AreReplies m fs → es ≡ fs
same_entries m [] [] same p q = refl
same_entries m [] (f ∷ fs) same p q = cc
same_entries m (e ∷ es) [] same p q = cc
same_entries m (e ∷ es) (f ∷ fs) same p q =
    let line : e.line ≡ f.line = cc in
    let lines : order_lines es ≡ order_lines fs = cc in
    let reply : e.reply ≡ f.reply = p.0 ∙ ap (λ (l : Line). reply_of l.command m) line ∙ sym q.0 in
    let rest = same_entries (set_after e.line.command m) es fs lines p.1 (subst (λ (l : Line). AreReplies (set_after l.command m) fs) (sym line) q.1) in
    λ i. record { line = line i; reply = reply i } ∷ rest i

pub one_answer : OneAnswer
one_answer m es fs same p q = let is = same_entries m es fs same p q in (is, ap (result_of m) is)

-- an order of two parts
pub result_of-append : ResultIsByParts
result_of-append m xs ys = fold-append (λ (n : RecordSet) (entry : Entry). set_after entry.line.command n) m xs ys

pub replies_cut : (m : RecordSet) (xs ys : List Entry) → AreReplies m (xs ++ ys) → AreReplies m xs × AreReplies (result_of m xs) ys
replies_cut m [] ys h = (tt, h)
replies_cut m (x ∷ xs) ys h =
    let rest = replies_cut (set_after x.line.command m) xs ys h.1 in
    ((h.0, rest.0), rest.1)

pub replies_joined : RepliesAreByParts
replies_joined m [] ys p q = q
replies_joined m (x ∷ xs) ys p q = (p.0, replies_joined (set_after x.line.command m) xs ys p.1 q)

pub sessions_cut : (xs ys : List Entry) → KeepsSessions (xs ++ ys) → KeepsSessions xs × KeepsSessions ys
sessions_cut [] ys h = (tt, h)
sessions_cut (x ∷ xs) ys h =
    let rest = sessions_cut xs ys h.1 in
    (((parts (MayPrecede x) xs ys h.0).0, rest.0), rest.1)

pub legal_cut : PartsAreLegal
legal_cut m xs ys h =
    let replies = replies_cut m xs ys h.replies in
    let sessions = sessions_cut xs ys h.sessions in
    (record { replies = replies.0; sessions = sessions.0 }, record { replies = replies.1; sessions = sessions.1 })

-- an order that grows by one entry at its end
pub replies_grown : RepliesGrow
replies_grown m es e p q = replies_joined m es (e ∷ []) p (q, tt)

pub result_grown : ResultGrows
result_grown m es e = result_of-append m es (e ∷ [])
