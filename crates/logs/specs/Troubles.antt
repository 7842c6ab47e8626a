-- The words in which a bad line is told. Assumes nothing.
use Rattle.std.specs.Prelude.{ℕ, List, ◌++◌, codes}
use Rattle.std.specs.Fmt.{decimal}
use Rattle.logs.specs.declared.troubles.BadLine.{BadLine}
use Rattle.logs.specs.declared.troubles.Expected.{Expected}
use Rattle.logs.specs.declared.troubles.Expected.TheVariants as expected

abbrev pub expected_words : Expected → List ℕ
expected_words expected.Beginning = codes "a processor number, model, clock or processors"
expected_words expected.Model = codes "SC or Godson"
expected_words expected.Clock = codes "global or none"
expected_words expected.Processors = codes "a number of processors, 255 at most"
expected_words expected.Processor = codes "a processor number, 254 at most"
expected_words expected.Colon = codes "\":\" after the processor number"
expected_words expected.Operation = codes "M or sync"
expected_words expected.OpenBracket = codes "\"[\" before the address"
expected_words expected.Address = codes "an address, in hexadecimal, of 32 bits at most"
expected_words expected.CloseBracket = codes "\"]\" after the address"
expected_words expected.Operator = codes "\":=\" for a store or \"==\" for a load"
expected_words expected.Value = codes "a value of 64 bits at most"
expected_words expected.Stamp = codes "\"@\" and two readings, or the end of the line"
expected_words expected.Enter = codes "an enter reading of 64 bits at most"
expected_words expected.StampColon = codes "\":\" between the readings"
expected_words expected.Commit = codes "a commit reading of 64 bits at most"
expected_words expected.End = codes "the end of the line"
expected_words expected.OneModel = codes "one model line at most"
expected_words expected.OneClock = codes "one clock line at most"
expected_words expected.OneProcessors = codes "one processors line at most"
expected_words expected.HeadBefore = codes "head lines before the first access"

-- the line's number, and what was expected
abbrev pub bad_line_words : BadLine → List ℕ
bad_line_words b = codes "line " ++ (decimal b.line ++ (codes ": expected " ++ expected_words b.expected))
