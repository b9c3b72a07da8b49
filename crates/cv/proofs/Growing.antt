-- What stays of a work while its pool grows.
use Rattle.std.proofs.Common.{◌≡◌, ℕ, zero, suc, ◌<◌, List, [], ◌∷◌, length, take, refl, ap, ap₂, ◌∙◌, arith, Option, Some, None}
use Rattle.std.specs.Prelude.{All, IfSome}
use Rattle.std.specs.declared.vec.Vec.{Vec}
use Rattle.std.specs.declared.alloc.Global.{Global}
use Rattle.cv_pool.specs.declared.node.NodeId.{NodeId}
use Rattle.cv_pool.specs.PoolView.{PoolView, Grows}
use Rattle.cv_syntax_trees.specs.Declarations.{Declaration}
use Rattle.cv_syntax.specs.Declarations.{declarations}
use Rattle.cv_syntax.specs.Classes.{DeclsView}
use Rattle.cv_syntax_trees.specs.Tree.{Tree}
use Rattle.cv_syntax.specs.PoolTrees.{tree_at}
use Rattle.cv_syntax.specs.declared.work.Work.{Work}
use Rattle.cv_parse.specs.Declaring.{IsBelow}
use Rattle.cv_script.specs.reader.Scripts.{trees_of}
use Rattle.cv_script.specs.declared.steps.Step.{Step}
use Rattle.cv_accept.specs.Accepted.{Content}
use Rattle.cv_accept.specs.Works.{content_at, content_in, script_in}
use Rattle.cv_accept.proofs.Blocks.{declarations_grown, root_grown}

-- the steps of a proof block stay

pub steps_grown : (old new : PoolView) (ss : List Step) → Grows old new → All (λ s. s.0.0 < length old.trees) ss → trees_of new.trees ss ≡ trees_of old.trees ss
steps_grown old new [] g a = refl
steps_grown old new (s ∷ ss) g a = ap₂ (λ t ts. t ∷ ts) (root_grown old new s.0 g (a zero s (omega arith))) (steps_grown old new ss g (λ k d l. a (suc k) d (omega arith)))

pub script_grown : (old new : PoolView) (script : Option (Vec Step Global)) → Grows old new → IfSome script (λ v. All (λ s. s.0.0 < length old.trees) v.items) → script_in new.trees script ≡ script_in old.trees script
script_grown old new None g a = refl
script_grown old new (Some v) g a = ap Some (steps_grown old new v.items g a)

-- what a work holds stays, but for the names that are drawn behind its own
pub content_grown : (old new : Work) (root : NodeId) (script : Option (Vec Step Global)) → Grows old.pool new.pool → take (length old.names) new.names ≡ old.names → new.decls ≡ old.decls → root.0 < length old.pool.trees → All (IsBelow (length old.pool.trees)) old.decls.list
    → IfSome script (λ v. All (λ s. s.0.0 < length old.pool.trees) v.items) → content_in (take (length old.names) new.names) new.decls.own new.pool.trees new.decls.list root script ≡ content_at old root script
content_grown old new root script g n d l a s =
    ap (λ (ns : List (List ℕ)). content_in ns new.decls.own new.pool.trees new.decls.list root script) n
    ∙ (ap (λ (v : DeclsView). content_in old.names v.own new.pool.trees v.list root script) d
    ∙ (ap (λ (ds : List Declaration). held old.names old.decls.own ds (tree_at new.pool.trees (Some root)) (script_in new.pool.trees script)) (declarations_grown old.pool new.pool old.decls.list g a)
    ∙ ap₂ (λ (t : Tree) (o : Option (List Tree)). held old.names old.decls.own (declarations old.pool.trees old.decls.list) t o) (root_grown old.pool new.pool root g l) (script_grown old.pool new.pool script g s)))
  where
    held : List (List ℕ) → ℕ → List Declaration → Tree → Option (List Tree) → Content
    held ns own ds t o = record { names = ns; own = own; declarations = ds; game = t; script = o }
