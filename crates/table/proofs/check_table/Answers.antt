use Rattle.minuska.proofs.ContractLaw.{check_table_contract}
use Rattle.table.proofs.check_table.Goals as goal

pub returns : goal.returns
returns c = check_table_contract _ _ c.index_table.ensures.answer
