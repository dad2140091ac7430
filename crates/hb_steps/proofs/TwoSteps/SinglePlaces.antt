-- A line stands in a legal order once, and with a reply of the machine.
use Rattle.hb_steps.proofs.TwoSteps.Names.{◌≡◌, ℕ, List, [], ◌∷◌, ◌++◌, Option, Some, None, refl, sym, ap, ◌∙◌, subst, Command, Insert, Delete, Lookup, Search, Reply, Entry}
use Rattle.std.proofs.Common.{zero, suc, slice_get}
use Rattle.std.specs.FinMap as finite
use Rattle.hb_set.specs.declared.commands.Reply.TheVariants as replies
use Rattle.hb_steps.specs.KeptOrder.{StandsInOrder, StandsOutside}
use Rattle.hb_set.specs.Machine.{RecordSet, found_or_missing, if_there, reply_of, set_after}
use Rattle.hb_set.specs.Order.{AreReplies, IsLegalOrder, KeepsSessions, MayPrecede}
use Rattle.hb_lemmas.proofs.Lists.{get-longer, at_place}
use Rattle.std.proofs.lemmas.List.Elements.{All-from_recursion}

-- no line stands twice
same_place : (es : List Entry) (i j : ℕ) (a b : Entry) → KeepsSessions es → slice_get es i ≡ Some a → slice_get es j ≡ Some b → a.line.number ≡ b.line.number → i ≡ j
same_place [] i j a b keeps first second same = cc
same_place (e ∷ es) zero zero a b keeps first second same = refl
same_place (e ∷ es) zero (suc j) a b keeps first second same =
    let is : e ≡ a = cc in
    absurd ((at_place (MayPrecede e) es j b (All-from_recursion (MayPrecede e) es keeps.0) second).other_line (ap (λ (x : Entry). x.line.number) is ∙ same))
same_place (e ∷ es) (suc i) zero a b keeps first second same =
    let is : e ≡ b = cc in
    absurd ((at_place (MayPrecede e) es i a (All-from_recursion (MayPrecede e) es keeps.0) first).other_line (ap (λ (x : Entry). x.line.number) is ∙ sym same))
same_place (e ∷ es) (suc i) (suc j) a b keeps first second same = ap suc (same_place es i j a b keeps.1 first second same)

-- the machine answers no reply that stands outside of the order
from_found : (o : Option (List ℕ)) → StandsOutside (found_or_missing o) → ⊥
from_found None never = never
from_found (Some body) never = never

from_insert : (o : Option (List ℕ)) → StandsOutside (if_there o replies.Duplicate replies.Done) → ⊥
from_insert None never = never
from_insert (Some body) never = never

from_delete : (o : Option (List ℕ)) → StandsOutside (if_there o replies.Done replies.Absent) → ⊥
from_delete None never = never
from_delete (Some body) never = never

never_outside : (command : Command) (n : RecordSet) → StandsOutside (reply_of command n) → ⊥
never_outside (Insert rec) n never = from_insert (finite.get n rec.key) never
never_outside (Delete point) n never = from_delete (finite.get n point) never
never_outside (Lookup point) n never = from_found (finite.get n point) never
never_outside (Search area) n never = never

not_outside : (n : RecordSet) (es : List Entry) (i : ℕ) (e : Entry) → AreReplies n es → slice_get es i ≡ Some e → StandsOutside e.reply → ⊥
not_outside n [] i e replies is outside = cc
not_outside n (x ∷ es) zero e replies is outside =
    let same : x ≡ e = cc in
    never_outside x.line.command n (subst StandsOutside (sym (ap (λ (a : Entry). a.reply) same) ∙ replies.0) outside)
not_outside n (x ∷ es) (suc i) e replies is outside = not_outside (set_after x.line.command n) es i e replies.1 is outside

-- so an answer stands at one place of the order at most
pub one_place : (n : RecordSet) (order : List Entry) (number place other : ℕ) (reply : Reply) → IsLegalOrder n order → StandsInOrder order number reply place → StandsInOrder order number reply other → place ≡ other
one_place n order number place other reply legal first second = same_place order place other first.entry second.entry legal.sessions first.there second.there (first.number_is ∙ sym second.number_is)

-- and one that stands outside at none
pub no_place : (n : RecordSet) (order : List Entry) (number place : ℕ) (reply : Reply) → IsLegalOrder n order → StandsOutside reply → StandsInOrder order number reply place → ⊥
no_place n order number place reply legal outside stands = not_outside n order place stands.entry legal.replies stands.there (subst StandsOutside (sym stands.reply_is) outside)

-- what stands in an order stands in a longer one
pub stands_longer : (order longer more : List Entry) (number place : ℕ) (reply : Reply) → longer ≡ order ++ more → StandsInOrder order number reply place → StandsInOrder longer number reply place
stands_longer order longer more number place reply is stands = record {
  entry = stands.entry;
  there = ap (λ (es : List Entry). slice_get es place) is ∙ get-longer order more place stands.entry stands.there;
  number_is = stands.number_is;
  reply_is = stands.reply_is;
}
