-- The operation of a row is allowed on the pages in memory and licensed by them, its points and boxes have the file's number of
-- attributes, and boxes match.
use Rattle.hb_steps.proofs.Files.Names.{refl, subst, inr, AnyPage, NamesItsPages, RowsAreAllowed, wanted_by, WalksInSpace, Machine, Op, op_has, PartsFitOnGoodPages}
use Rattle.hb_steps.proofs.Files.FitOps.{HeldArePoints, fits_op}
use Rattle.hb_steps.proofs.Memory.KeptPages.{brought, keeps_pages}
use Rattle.hb_steps.proofs.Room.PutHalves.{rows_can_be_done}
use Rattle.hb_steps.proofs.Files.RowTells.{Tells, boxes_told, tells_row}
use Rattle.hb_steps.specs.MachineLaws.{RowsMayBeDone}
use Rattle.hb_ops.specs.declared.operations.Op.TheVariants as ops

-- what every machine keeps of its walks is enough for each operation
pub names_its_pages : (m : Machine) (op : Op) → WalksInSpace m → NamesItsPages m op
names_its_pages m (ops.Put id rec) walks = tt
names_its_pages m (ops.Del id point) walks = tt
names_its_pages m (ops.Extract source fresh path cuts free_after) walks = tt
names_its_pages m (ops.Post parent path inner area) walks = tt
names_its_pages m (ops.Merge parent keep gone) walks = walks
names_its_pages m (ops.Grow fresh free_after) walks = tt

pub rows_may_be_done : PartsFitOnGoodPages → HeldArePoints → RowsAreAllowed → RowsMayBeDone
rows_may_be_done parts points law m actor fetched deed op may keeps brings row does =
    let allowed = rows_can_be_done law m actor fetched deed op may keeps.latches_fit keeps.meta_within_limits keeps.pages_of_file keeps.room_known (names_its_pages m op keeps.walk_in_space) brings row does in
    let now = brought m AnyPage fetched brings (keeps_pages m keeps.meta_within_limits keeps.pages_of_file) in
    let tells = subst (Tells fetched) does (tells_row m actor AnyPage fetched brings (inr (may, keeps.latches_fit)) (wanted_by m actor) deed refl (keeps.lines_fit.in_hand actor) row) in
    record {
      doable = record {
        points = op_has fetched.meta.k op (fits_op points parts fetched now.limits now.high now.framed op tells allowed);
        allowed = allowed;
        boxes = boxes_told fetched op tells;
      };
      licensed = tells;
    }
