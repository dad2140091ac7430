-- What a row tells of the operation that it does, beyond what the pages that this reads tell.
use Rattle.hb_steps.proofs.Files.Names.{◌≡◌, ℕ, ◌-◌, List, Option, Some, None, IfSome, refl, sym, ap, ◌∙◌, subst, ◌≢◌, ◌⊎◌, inl, inr, option_and_then, same_Some, Record, Leaf, Records, Child, Sibling, LivePage, Side, Shared, Exclusive, Op, Job, Wanted, Activity, Deed, in_mode, named_child, wanted_of, wanted_page, both_there, must_hold, is_next_number, IsLicensedHere, IsPlanned, looked_live, wanted_by, Brings, Machine, with_disk, sight, Row, Placed, leaf_at, if_live, BoxesMatch, Area, read_here, StoreState, in_memory, each_op, each_row, live_so, LatchesFit, IsActor, at_itself}
use Rattle.std.proofs.lemmas.Option.{none-some}
use Rattle.hb_ops.specs.declared.operations.Op.TheVariants as ops
use Rattle.hb_set.specs.declared.commands.Command.{Command}
use Rattle.hb_set.specs.declared.commands.Command.TheVariants.{Insert}
use Rattle.hb_activity.specs.declared.activities.Activity.TheVariants as at
use Rattle.hb_activity.specs.Classes.{line_in_hand}
use Rattle.hb_steps.proofs.Files.PairAtHand.{pair_boxes}
use Rattle.hb_steps.proofs.Memory.BroughtPages.{IsSure}
use Rattle.hb_steps.specs.KeptLines.{HasBody, HasLineBody}
use Rattle.hb_space.specs.Points.{IsBody}
use Rattle.hb_ops.specs.Owing.{Posts}

abbrev pub Tells : StoreState → Option Op → Type 0
Tells st None = Unit {0}
Tells st (Some op) = IsLicensedHere st op

-- the boxes match of the pages that it reads
pub boxes_told : (st : StoreState) (op : Op) → IsLicensedHere st op → BoxesMatch op (read_here st op 0) (read_here st op 1) (read_here st op 2)
boxes_told st (ops.Put id rec) tells = tt
boxes_told st (ops.Del id point) tells = tt
boxes_told st (ops.Extract source fresh path cuts free_after) tells = tt
boxes_told st (ops.Post parent at inner area) tells = tt
boxes_told st (ops.Merge parent keep gone) tells = tells
boxes_told st (ops.Grow fresh free_after) tells = tt

pub tells_none : (st : StoreState) (op : Option Op) → op ≡ None → Tells st op
tells_none st op none = subst (Tells st) (sym none) tt

-- the child that a poster wants is the one that the parent's leaf names
wants_child : (p : List ℕ) (level : ℕ) (o : Option Placed) (wanted : Wanted) → in_mode (λ level. Shared) (option_and_then (λ (placed : Placed). named_child level placed.leaf) o) ≡ Some wanted
    → (area : Area) × (o ≡ Some (record { leaf = Child wanted.page; area = area }))
wants_child p level None wanted is = absurd (none-some wanted is)
wants_child p level (Some placed) wanted is = by placed.leaf refl is
  where
    by : (leaf : Leaf) → placed.leaf ≡ leaf → in_mode (λ level. Shared) (named_child level leaf) ≡ Some wanted → (area : Area) × (Some placed ≡ Some (record { leaf = Child wanted.page; area = area }))
    by (Records records) leaf_is none = absurd (none-some wanted none)
    by (Sibling page) leaf_is none = absurd (none-some wanted none)
    by (Child page) leaf_is some =
        let same : wanted_page page (level - 1) Shared ≡ wanted = cc in
        (placed.area, ap (λ (l : Leaf). Some (record { leaf = l; area = placed.area })) (leaf_is ∙ ap (λ (w : Wanted). Child w.page) same))

-- What tells that a page that the actor has latched is there as it was: the disk does, or that latches fit.
abbrev pub KeepsLatched : Machine → ℕ → Type 0
KeepsLatched m actor = (m.files ≢ None) ⊎ (IsActor actor × LatchesFit m)

module _ (m : Machine) (actor : ℕ) (may : ℕ → Type 0) (fetched : StoreState) (brings : Brings m may fetched) (keeps : KeepsLatched m actor) where
  abbrev pub m' : Machine
  m' = with_disk fetched m.files m.clock m

  -- the page that the step looked into is the one that the row has
  looked_page_stays : (job : Job) (parent : ℕ) (page now : LivePage) → m.activity actor ≡ at.PosterAgain job parent → if_live (in_memory m.store parent) ≡ Some page → if_live (in_memory fetched parent) ≡ Some now → if_live (in_memory fetched parent) ≡ Some page
  looked_page_stays job parent page now stands live here = both_there m may fetched brings parent page now (by keeps) live here
    where
      by : KeepsLatched m actor → IsSure m parent
      by (inl told) = inl told
      by (inr (one, fit)) = inr (must_hold m actor parent (at.PosterAgain job parent) Exclusive one fit stands (at_itself parent (Some Exclusive) None))

  -- a posting, by the child that was latched
  planned : (job : Job) (parent : ℕ) (wanted : Wanted) (child page : LivePage) (path : List Side) (inner : ℕ) (area : Area) → m.activity actor ≡ at.PosterAgain job parent → wanted_of (at.PosterAgain job parent) m.store.meta (if_live (in_memory m.store parent)) ≡ Some wanted
      → if_live (in_memory fetched wanted.page) ≡ Some child → if_live (in_memory fetched parent) ≡ Some page → Posts page child job.point fetched.meta.icap path inner area → IsPlanned fetched parent path inner area
  planned job parent wanted child page path inner area stands wants child_live live posts = by (if_live (in_memory m.store parent)) refl wants
    where
      by : (looked : Option LivePage) → if_live (in_memory m.store parent) ≡ looked → wanted_of (at.PosterAgain job parent) m.store.meta looked ≡ Some wanted → IsPlanned fetched parent path inner area
      by None is none = absurd (none-some wanted none)
      by (Some old) is some =
          let named = wants_child job.point old.level (leaf_at old job.point) wanted some in
          let same : old ≡ page = same_Some old page (sym (looked_page_stays job parent old page stands is live) ∙ live) in
          record {
            page = page;
            live = live_so (in_memory fetched parent) page live;
            child = child;
            outer = wanted.page;
            named = live_so (in_memory fetched wanted.page) child child_live;
            p = job.point;
            box = named.0;
            above = ap (λ (q : LivePage). leaf_at q job.point) (sym same) ∙ named.1;
            planned = posts;
          }

  put_body : (command : Command) (rec : Record) → command ≡ Insert rec → HasBody command → IsBody rec.body
  put_body command rec is body = subst HasBody is body

  -- what an activity wants and has in hand, and what its operation is told by
  abbrev Told : Option Wanted → Activity → Option Op → Type 0
  Told wanted activity op = m.activity actor ≡ activity → wanted_of activity m.store.meta (looked_live m.store activity) ≡ wanted → IfSome (line_in_hand activity) HasLineBody → Tells fetched op

  pub tells_row : (wanted : Option Wanted) (deed : Deed) → wanted_by m actor ≡ wanted → IfSome (line_in_hand (m.activity actor)) HasLineBody → Row (m.activity actor) wanted m' deed → Tells fetched deed.op
  tells_row wanted deed wants body row = each_row m' (λ activity deed. Told wanted activity deed.op) (m.activity actor) wanted deed
      (record {
        full = λ line held none stands wants body. tt;
        splits = λ line held page live leaves stands wants body. is_next_number fetched leaves.fresh leaves.free_after leaves.next;
        puts = λ line source fresh rec command half either page live stands wants body. put_body line.command rec command body;
      })
      (λ its page is hand. each_op (sight m') its.page page (Told wanted) (record {
        none = λ activity stands wants body. tt;
        inserts = λ line held rest found rec command absent room stands wants body. put_body line.command rec command body;
        deletes = λ line held rest found p there command there_now stands wants body. tt;
        grows = λ job fresh free_after may free next stands wants body. is_next_number fetched fresh free_after next;
        posts = λ job parent above path inner area live plan stands wants body. planned job parent its page above path inner area stands (wants ∙ is) hand.live live plan;
        parts = λ job parent above live plan leaves stands wants body. is_next_number fetched leaves.fresh leaves.free_after leaves.next;
        merges = λ job parent keep gone pair stands asks body. pair_boxes m actor fetched job parent keep gone its page pair stands (wants ∙ is) hand;
      }))
      row refl wants body
