use Rattle.std.proofs.Common.{refl}
use Rattle.dlms_link.proofs.Proposals.{proposal_is_read}
use Rattle.dlms_link.proofs.Sizes.{agreed, unread, sized_after, stays_whole}
use Rattle.dlms_link.proofs.laws.sizes_are_agreed.Goals as goal

pub returns : goal.returns
returns c = record { proposed = proposal_is_read; agreed = agreed; otherwise = unread; after = sized_after; unproposed = λ ua. refl; whole = stays_whole }
