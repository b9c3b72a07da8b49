-- What is put behind a try.
use Rattle.std.proofs.Common.{◌≡◌, ℕ, ◌≤◌, length, None, Result, Ok, Err}
use Rattle.std.specs.Prelude.{All, OnErr, OnOk}
use Rattle.cv_kernel.specs.Keeping.{StaysUpTo}
use Rattle.cv_kernel.specs.Sequences.{Stands}
use Rattle.cv_kernel.specs.declared.sequence.Sequence.{Sequence}
use Rattle.cv_parse.specs.Declaring.{IsBelow}
use Rattle.cv_report.specs.Lines.{Leg}
use Rattle.cv_syntax.specs.declared.work.Work.{Work}
use Rattle.cv_follow.specs.Searches.{MayTry}
use Rattle.cv_follow.proofs.Tries.{may_back}

-- what is so of each leg where a call succeeds, is so where it succeeds

pub on_ok_each : {A E : Type 0} (P Q : Leg → Type 0) (r : Result A E) → ((e : Leg) → P e → OnOk r (Q e)) → OnOk r ((e : Leg) → P e → Q e)
on_ok_each P Q (Ok a) f = f
on_ok_each P Q (Err x) f = tt

pub on_err_each : {A E : Type 0} (P Q : Leg → Type 0) (r : Result A E) → ((e : Leg) → P e → OnErr r (Q e)) → OnErr r ((e : Leg) → P e → Q e)
on_err_each P Q (Ok a) f = tt
on_err_each P Q (Err x) f = f

pub on_err_so : {A E : Type 0} (P : Type 0) (r : Result A E) → P → OnErr r P
on_err_so P (Ok a) p = tt
on_err_so P (Err x) p = p

-- another step may be tried, where the last game wasn't lost
pub may_behind : {A E : Type 0} (mark : ℕ) (old new : Work) (s t : Sequence) (r : Result A E) → MayTry old s → mark ≤ length old.pool.trees → All (IsBelow mark) old.decls.list → StaysUpTo mark old.pool new.pool → OnOk r (Stands new.pool.trees new.decls t) → new.decls ≡ old.decls → t.arrays ≡ None → OnOk r (MayTry new t)
may_behind mark old new s t (Ok a) m l below stays stands decls empty = may_back mark old new s t m l below stays stands decls empty
may_behind mark old new s t (Err x) m l below stays stands decls empty = tt
