use Rattle.std.proofs.Common.{◌≡◌, ℕ, ◌+◌, ◌<◌, length}
use Rattle.cv_context.specs.Roles.{name_at}
use Rattle.cv_steps_laws.specs.crypto.Steps.{first_answer}
use Rattle.cv_kernel_crypto.proofs.contexts.answers_for.Given as goal

abbrev pub invariant-loop-k : goal.invariant-loop-k
invariant-loop-k l = record {
  long : length l.answers.items ≡ l.k;
  named : (j : ℕ) → j < l.k → name_at l.answers.items j ≡ first_answer + j;
}
