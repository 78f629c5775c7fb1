use Rattle.th_entries.proofs.Entering.{entry_law}
use Rattle.th_entries.proofs.Ending.{leave_law, return_law}
use Rattle.th_entries.proofs.Calls.{call_law}
use Rattle.th_entries.proofs.Backs.{back_law}
use Rattle.th_entries.proofs.activation_laws.Goals as goal

pub returns : goal.returns
returns c = record { entries = entry_law; returns = return_law; leaves = leave_law; calls = call_law; backs = back_law }
