-- Terms that use the key and coins in sites alone, and no answer, read plain names alone outside sites.
use Rattle.std.proofs.Common.{◌≡◌, ℕ, ◌<◌, true, false, length, None, arith}
use Rattle.cv_syntax_trees.specs.Tree.{Tree}
use Rattle.cv_scope_rules.specs.declared.position.Position.TheVariants.{Anywhere}
use Rattle.cv_scene.specs.Scenes.{names}
use Rattle.cv_scene.specs.Refusals.{first_use}
use Rattle.cv_scene.specs.Apt.{reads_outside}
use Rattle.cv_scene.specs.Reductions.{Reduction, is_coin, is_plain, matching, sites}
use Rattle.cv_match_laws.specs.instances.Uses.{uses_outside}
use Rattle.cv_match_laws.proofs.names.Plain.{not_plain}
use Rattle.cv_context_runs.proofs.instances.Outside.{outside_less, plain_outside, unnamed_unused}

module _ (r : Reduction) where
  pub terms_plain : (t : Tree) → ((p : ℕ) → first_use (matching r) Anywhere p t ≡ None → uses_outside (matching r) Anywhere r.key t ≡ 0) → (p : ℕ) → first_use (matching r) Anywhere p t ≡ None
      → ((y : ℕ) → is_coin r y ≡ true → uses_outside (matching r) Anywhere y t ≡ 0) → ((k : ℕ) → k < length (sites r) → names (r.answer k) t ≡ false) → reads_outside (matching r) (is_plain r) t ≡ true
  terms_plain t free p key coins answers =
      plain_outside (matching r) (is_plain r) Anywhere t
      (not_plain r (λ x. uses_outside (matching r) Anywhere x t ≡ 0) (free p key) coins
      (λ k l. let u = unnamed_unused (r.answer k) t (answers k l) in let v = outside_less (matching r) Anywhere (r.answer k) t in omega arith))
