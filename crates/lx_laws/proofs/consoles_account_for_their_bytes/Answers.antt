use Rattle.lx_laws.proofs.Accounts.{accounts, accounts_from_the_start}
use Rattle.lx_laws.proofs.consoles_account_for_their_bytes.Goals as goal

pub returns-clause-run : goal.returns-clause-run
returns-clause-run c = accounts

pub returns-clause-from_the_start : goal.returns-clause-from_the_start
returns-clause-from_the_start c = accounts_from_the_start
