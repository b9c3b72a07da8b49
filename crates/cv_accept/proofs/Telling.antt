-- Faults with the numbers of other tokens: what they are where they tell one.
use Rattle.std.proofs.Common.{◌≡◌, ℕ, refl, Result, Ok, Err}
use Rattle.cv_parse.specs.declared.error.ParseError.{ParseError}
use Rattle.cv_parse.specs.declared.error.ParseError.TheVariants as parse
use Rattle.cv_syntax.specs.declared.work.BuildError.{BuildError}
use Rattle.cv_accept.specs.declared.error.FileError.{FileError}
use Rattle.cv_accept.specs.declared.error.FileError.TheVariants as fault
use Rattle.cv_accept.specs.Numbers.{parse_told, told, told_by}

pub told_error : {A : Type 0} (number : ℕ → ℕ) (r : Result A FileError) (x : FileError) → told_by number r ≡ Err x → (y : FileError) × (r ≡ Err y) × (told number y ≡ x)
told_error number (Ok c) x e = absurd (cc)
told_error number (Err y) x e = (y, refl, cc)

pub told_script : (number : ℕ → ℕ) (y : FileError) (k : ℕ) → told number y ≡ fault.Script k → (j : ℕ) × (y ≡ fault.Script j) × (number j ≡ k)
told_script number (fault.Script j) k h = (j, refl, cc)
told_script number (fault.Lex e) k h = absurd (cc)
told_script number (fault.LibraryLex e) k h = absurd (cc)
told_script number (fault.Library e) k h = absurd (cc)
told_script number (fault.Expand e) k h = absurd (cc)
told_script number (fault.Tokens count) k h = absurd (cc)
told_script number (fault.Parse e) k h = absurd (cc)
told_script number (fault.Types e) k h = absurd (cc)
told_script number (fault.Scope e) k h = absurd (cc)
told_script number (fault.Group j e) k h = absurd (cc)
told_script number (fault.Query j) k h = absurd (cc)
told_script number fault.OutOfMemory k h = absurd (cc)
told_script number (fault.Room need) k h = absurd (cc)

pub told_parse : (number : ℕ → ℕ) (y : FileError) (x : ParseError) → told number y ≡ fault.Parse x → (z : ParseError) × (y ≡ fault.Parse z) × (parse_told number z ≡ x)
told_parse number (fault.Parse z) x h = (z, refl, cc)
told_parse number (fault.Script j) x h = absurd (cc)
told_parse number (fault.Lex e) x h = absurd (cc)
told_parse number (fault.LibraryLex e) x h = absurd (cc)
told_parse number (fault.Library e) x h = absurd (cc)
told_parse number (fault.Expand e) x h = absurd (cc)
told_parse number (fault.Tokens count) x h = absurd (cc)
told_parse number (fault.Types e) x h = absurd (cc)
told_parse number (fault.Scope e) x h = absurd (cc)
told_parse number (fault.Group j e) x h = absurd (cc)
told_parse number (fault.Query j) x h = absurd (cc)
told_parse number fault.OutOfMemory x h = absurd (cc)
told_parse number (fault.Room need) x h = absurd (cc)

-- a refusal of the grammar with the numbers of the source

pub as_syntax : (number : ℕ → ℕ) (y : ParseError) (k : ℕ) → parse_told number y ≡ parse.Syntax k → (j : ℕ) × (y ≡ parse.Syntax j) × (number j ≡ k)
as_syntax number (parse.Syntax j) k e = (j, refl, cc)
as_syntax number (parse.Nesting j) k e = absurd (cc)
as_syntax number (parse.NameTwice j) k e = absurd (cc)
as_syntax number (parse.NameUnknown j) k e = absurd (cc)
as_syntax number (parse.Build b) k e = absurd (cc)

pub as_nesting : (number : ℕ → ℕ) (y : ParseError) (k : ℕ) → parse_told number y ≡ parse.Nesting k → (j : ℕ) × (y ≡ parse.Nesting j) × (number j ≡ k)
as_nesting number (parse.Syntax j) k e = absurd (cc)
as_nesting number (parse.Nesting j) k e = (j, refl, cc)
as_nesting number (parse.NameTwice j) k e = absurd (cc)
as_nesting number (parse.NameUnknown j) k e = absurd (cc)
as_nesting number (parse.Build b) k e = absurd (cc)

pub as_twice : (number : ℕ → ℕ) (y : ParseError) (k : ℕ) → parse_told number y ≡ parse.NameTwice k → (j : ℕ) × (y ≡ parse.NameTwice j) × (number j ≡ k)
as_twice number (parse.Syntax j) k e = absurd (cc)
as_twice number (parse.Nesting j) k e = absurd (cc)
as_twice number (parse.NameTwice j) k e = (j, refl, cc)
as_twice number (parse.NameUnknown j) k e = absurd (cc)
as_twice number (parse.Build b) k e = absurd (cc)

pub as_unknown : (number : ℕ → ℕ) (y : ParseError) (k : ℕ) → parse_told number y ≡ parse.NameUnknown k → (j : ℕ) × (y ≡ parse.NameUnknown j) × (number j ≡ k)
as_unknown number (parse.Syntax j) k e = absurd (cc)
as_unknown number (parse.Nesting j) k e = absurd (cc)
as_unknown number (parse.NameTwice j) k e = absurd (cc)
as_unknown number (parse.NameUnknown j) k e = (j, refl, cc)
as_unknown number (parse.Build b) k e = absurd (cc)

pub as_build : (number : ℕ → ℕ) (y : ParseError) (b : BuildError) → parse_told number y ≡ parse.Build b → y ≡ parse.Build b
as_build number (parse.Syntax j) b e = absurd (cc)
as_build number (parse.Nesting j) b e = absurd (cc)
as_build number (parse.NameTwice j) b e = absurd (cc)
as_build number (parse.NameUnknown j) b e = absurd (cc)
as_build number (parse.Build a) b e = e
