-- A session puts its record into the half of a split that has room.
use Rattle.hb_steps.proofs.Room.Names.{◌≡◌, ◌⊎◌, inl, inr, ℕ, Some, sym, ap, ◌∙◌, subst, refl, same_Some, Record, LivePage, Op, Insert, Line, Activity, Deed, does, both_there, Brings, MustStay, HasRoomFor, OneHasRoom, Machine, live_here, sight, DirectlyHolds, StoreState}
use Rattle.hb_ops.specs.declared.operations.Op.TheVariants.{Put}
use Rattle.hb_activity.specs.Wanting.{wanted_of}
use Rattle.hb_steps.specs.AllowedLaws.{AnyPage, RowsAreAllowed}
use Rattle.hb_steps.specs.Asking.{looked_live}
use Rattle.hb_steps.specs.DoableLaws.{PutsFindRoom, RowsCanBeDone}
use Rattle.hb_steps.specs.Machines.{with_disk}
use Rattle.hb_steps.specs.Rows.{Row}
use Rattle.hb_point.specs.SplitRows.{PutsInHalf}
use Rattle.hb_point.proofs.Facts.RecordOps.{insert_of}
use Rattle.hb_steps.proofs.Files.AllowedRows.{half_held}

-- the operation of a put tells its half and its record
pub record IsPutOf (half other : ℕ) (rec same : Record) : Type 0 where
  pub where_it_goes : half ≡ other
  pub what_goes : rec ≡ same

put_of : (half other : ℕ) (rec same : Record) → Put half rec ≡ Put other same → IsPutOf half other rec same
put_of half other rec same is = record { where_it_goes = cc; what_goes = cc }

module _ (m : Machine) (fetched : StoreState) (brings : Brings m AnyPage fetched) (line : Line) (source fresh : ℕ) (deed : Deed) (row : PutsInHalf (sight (with_disk fetched m.files m.clock m)) line source fresh deed) (held : (half : ℕ) → (half ≡ source) ⊎ (half ≡ fresh) → MustStay m half) where
  -- the page that holds the point is the one that the machine knows
  the_half : (id : ℕ) (page : LivePage) → live_here m.store id ≡ Some page → row.half ≡ id → (id ≡ source) ⊎ (id ≡ fresh) → DirectlyHolds page row.rec.key
  the_half id page live is either =
      let same : row.page ≡ page = same_Some row.page page (sym row.live ∙ ap (live_here fetched) is ∙ both_there m AnyPage fetched brings id page row.page (inr (held id either)) live (ap (live_here fetched) (sym is) ∙ row.live)) in
      subst (λ (q : LivePage). DirectlyHolds q row.rec.key) same row.holds

  room_of : OneHasRoom m source fresh row.rec.key row.rec.body → HasRoomFor m row.half row.rec.key row.rec.body
  room_of one = by one.room row.either
    where
      at_half : (id : ℕ) → row.half ≡ id → HasRoomFor m id row.rec.key row.rec.body → HasRoomFor m row.half row.rec.key row.rec.body
      at_half id is has = subst (λ (n : ℕ). HasRoomFor m n row.rec.key row.rec.body) (sym is) has

      by : HasRoomFor m source row.rec.key row.rec.body ⊎ HasRoomFor m fresh row.rec.key row.rec.body → (row.half ≡ source) ⊎ (row.half ≡ fresh) → HasRoomFor m row.half row.rec.key row.rec.body
      by (inl has) (inl is) = at_half source is has
      by (inr has) (inr is) = at_half fresh is has
      by (inl has) (inr is) =
          let first = subst (λ (q : LivePage). DirectlyHolds q row.rec.key) (same_Some has.home.page one.first (sym has.home.live ∙ one.first_live)) has.home.direct in
          absurd (one.not_both first (the_half fresh one.second one.second_live is (inr refl)))
      by (inr has) (inl is) =
          let second = subst (λ (q : LivePage). DirectlyHolds q row.rec.key) (same_Some has.home.page one.second (sym has.home.live ∙ one.second_live)) has.home.direct in
          absurd (one.not_both (the_half source one.first one.first_live is (inl refl)) second)

  put_finds : (half : ℕ) (rec : Record) → deed.op ≡ Some (Put half rec) → (same : Record) → line.command ≡ Insert same → OneHasRoom m source fresh same.key same.body → HasRoomFor m half rec.key rec.body
  put_finds half rec does same command one =
      let told = put_of row.half half row.rec rec (same_Some (Put row.half row.rec) (Put half rec) (sym (ap (λ (d : Deed). d.op) row.deed_is) ∙ does)) in
      let of_line : same ≡ row.rec = insert_of same row.rec (sym command ∙ row.command) in
      let has = room_of (subst (λ (r : Record). OneHasRoom m source fresh r.key r.body) of_line one) in
      subst (λ (r : Record). HasRoomFor m half r.key r.body) told.what_goes (subst (λ (n : ℕ). HasRoomFor m n row.rec.key row.rec.body) told.where_it_goes has)

pub puts_find_room : PutsFindRoom
puts_find_room m actor fetched deed op may fit knows brings row does line source fresh half rec is put =
    by (knows.puts actor source fresh line is)
  where
    puts : PutsInHalf (sight (with_disk fetched m.files m.clock m)) line source fresh deed
    puts = subst (λ (a : Activity). Row a (wanted_of a m.store.meta (looked_live m.store a)) (with_disk fetched m.files m.clock m) deed) is row

    by : (same : Record) × (line.command ≡ Insert same) × OneHasRoom m source fresh same.key same.body → HasRoomFor m half rec.key rec.body
    by (same, command, one) = put_finds m fetched brings line source fresh deed puts (λ half either. half_held m actor may fit line source fresh half is either) half rec (does ∙ ap (λ (o : Op). Some o) put) same command one

pub rows_can_be_done : RowsAreAllowed → RowsCanBeDone
rows_can_be_done allowed m actor fetched deed op may fit within inside knows names brings row does =
    allowed m actor fetched deed op may fit within inside knows names brings row does (puts_find_room m actor fetched deed op may fit knows brings row does)
