-- What a line or a job that can't go on does to the file.
use Rattle.hb_steps.proofs.Facts.Names.{◌≡◌, None, refl, Activity}
use Rattle.hb_activity.specs.declared.dropping.DropWhy.{DropWhy}
use Rattle.hb_steps.proofs.Table.GivenUp.{given_up_is}
use Rattle.hb_steps.specs.GivingUp.{gives_up}

pub gives_up_nothing : (why : DropWhy) (activity : Activity) → (gives_up why activity).op ≡ None
gives_up_nothing why activity = given_up_is (λ deed. deed.op ≡ None) why activity (λ line is. refl) (λ job is. refl) (λ is. refl)
