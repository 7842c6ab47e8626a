-- What the program tells of all that its reader has. Assumes nothing.
use Rattle.std.specs.Prelude.{◌≡◌, ℕ, ◌+◌, List, length, take, Option, IfSome}
use Rattle.std.specs.Io.KnownBytes.{Appends}
use Rattle.memory.specs.declared.refusals.Fault.{Fault}
use Rattle.memory.specs.Limits.{input_limit}
use Rattle.judging.specs.Marked.{marked}
use Rattle.deciding.specs.declared.Report.{Report}
use Rattle.deciding.specs.Reports.{Reports, refusal_of}
use Rattle.explaining.specs.declared.accounts.Account.{Account}
use Rattle.explaining.specs.Accounts.{IsAccount, account_words}

-- of the first bytes, which are a run searched so many steps, the account of a report is written behind what was written before; and it is said why the run
-- is refused, if it is. One byte more than count is read, to see whether it comes.
pub record Tells (input : List ℕ) (steps : ℕ) (old new : Option (List ℕ)) (refused : Option Fault) : Type 0 where
  pub report : Report
  pub account : Account
  pub reports : let bytes = take input_limit input in Reports (marked bytes) bytes steps report
  pub accounts : IsAccount report (length input) account
  pub told : Appends old new (account_words account)
  pub says : refused ≡ refusal_of report.ruling

abbrev pub TellsKnown : Option (List ℕ) → ℕ → Option (List ℕ) → Option (List ℕ) → Option Fault → Type 0
TellsKnown of_input steps old new refused = IfSome of_input (λ xs. Tells (take (input_limit + 1) xs) steps old new refused)
