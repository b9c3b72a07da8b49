-- How a run ends where what is read is refused.
use Rattle.cv_parse.specs.declared.error.ParseError.{ParseError}
use Rattle.cv_parse.specs.declared.error.ParseError.TheVariants as parse
use Rattle.cv_syntax.specs.declared.work.BuildError.TheVariants as build
use Rattle.cv_accept.specs.declared.error.FileError.{FileError}
use Rattle.cv_accept.specs.declared.error.FileError.TheVariants as fault
use Rattle.cv_report.specs.declared.report.FileFault.TheVariants.{Lex, LibraryLex, Library, Expand, Parse, Script, Types, Scope, Group, Query}
use Rattle.cv_report.specs.declared.report.Status.{Status}
use Rattle.cv_report.specs.declared.report.Status.TheVariants as status
use Rattle.cv_report.specs.declared.report.Which.TheVariants.{Depth, Nodes, Pool, Tokens}

-- limits and want of memory are told apart from the faults of a file
abbrev pub parse_ended : ParseError → Status
parse_ended (parse.Build (build.Nodes count)) = status.Limit (Nodes count)
parse_ended (parse.Build (build.Depth depth)) = status.Limit (Depth depth)
parse_ended (parse.Build (build.Full need)) = status.Limit (Pool need)
parse_ended (parse.Build build.OutOfMemory) = status.Memory
parse_ended e = status.FileRefused (Parse e)

abbrev pub status_of : FileError → Status
status_of (fault.Lex e) = status.FileRefused (Lex e)
status_of (fault.LibraryLex e) = status.FileRefused (LibraryLex e)
status_of (fault.Library e) = status.FileRefused (Library e)
status_of (fault.Expand e) = status.FileRefused (Expand e)
status_of (fault.Tokens count) = status.Limit (Tokens count)
status_of (fault.Parse e) = parse_ended e
status_of (fault.Script token) = status.FileRefused (Script token)
status_of (fault.Types e) = status.FileRefused (Types e)
status_of (fault.Scope e) = status.FileRefused (Scope e)
status_of (fault.Group k e) = status.FileRefused (Group k e)
status_of (fault.Query k) = status.FileRefused (Query k)
status_of (fault.Room need) = status.Limit (Pool need)
status_of fault.OutOfMemory = status.Memory
