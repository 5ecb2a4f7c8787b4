-- The theorem is `agree`, for ends that keep the promises.
use Rattle.agreement.proofs.Agree.{agree}
use Rattle.agreement.proofs.Views.{views}
use Rattle.agreement.proofs.Instance.{promises}
use Rattle.agreement.proofs.two_ends_agree.Goals as goal

pub returns : goal.returns
returns c = λ l s r first second alike new-sender new-receiver events may.
    agree l (views l) (promises l alike) s r first second new-sender new-receiver events may
