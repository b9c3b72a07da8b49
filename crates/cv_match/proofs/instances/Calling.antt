-- The first function of which a term is an instance, function by function.
use Rattle.std.proofs.Common.{◌≡◌, ℕ, suc, ◌+◌, Bool, true, false, Option, Some, None, refl, ap, ap₂, sym, ◌∙◌, add-one}
use Rattle.std.specs.Prelude.{if◌then◌else◌}
use Rattle.cv_syntax_trees.specs.declared.head.Head.{Head}
use Rattle.cv_syntax_trees.specs.Tree.{Tree, Empty, Node}
use Rattle.cv_syntax_trees.specs.sites.Sites.{first_of}
use Rattle.cv_meaning.specs.contexts.Groups.{function_of, functions_of}
use Rattle.cv_scene.specs.Instances.{Call, Matching, call_by, first_call, guess, is_instance}

pub call_end : (M : Matching) (k : ℕ) (t m : Tree) → t ≡ Empty → first_call M k (functions_of t) m ≡ None
call_end M k t m e = ap (λ u. first_call M k (functions_of u) m) e

abbrev pub call_or : Matching → ℕ → Tree → Tree → Bool → Option Call → Option Call
call_or M k f m true o = Some (record { position = k; function = function_of f; instance = guess M.group (function_of f) m })
call_or M k f m false o = o
