-- What stays of a pool when games are given back.
use Rattle.std.proofs.Common.{◌≡◌, ℕ, ◌+◌, ◌-◌, ◌<◌, ◌≤◌, List, length, take, refl, ap, sym, subst, ◌∙◌, arith}
use Rattle.std.specs.Prelude.{All}
use Rattle.std.proofs.Math.Nat.{min-le_left}
use Rattle.std.proofs.lemmas.List.{length-take-le}
use Rattle.cv_directory.specs.Live.{IsLive}
use Rattle.cv_kernel_crypto.proofs.Growing.{declarations_grown}
use Rattle.cv_pool.specs.PoolView.{Grows, PoolView}
use Rattle.cv_pool.proofs.Growth.{Grows_length, Grows_same}
use Rattle.cv_scope_rules.specs.Phrases.{IsWellFormed}
use Rattle.cv_syntax.specs.Classes.{DeclsView}
use Rattle.cv_syntax.specs.Declarations.{declarations}
use Rattle.cv_syntax.specs.Postorder.{postorder}
use Rattle.cv_syntax.specs.declared.decls.Decl.{Decl}
use Rattle.cv_syntax.specs.declared.make.Make.{Make}
use Rattle.cv_syntax.specs.limits.Limits.{nodes_of}
use Rattle.cv_syntax.specs.listing.Needs.{need_for}
use Rattle.cv_syntax.proofs.limits.Counting.{few_overs}
use Rattle.cv_syntax_trees.specs.Tree.{Tree}
use Rattle.cv_kernel.specs.Keeping.{IsFreed, StaysUpTo, most_behind}

-- a listed tree takes no more nodes than its list is long
few_needed : (t : Tree) (makes : List Make) → makes ≡ postorder t → need_for t ≤ length makes
few_needed t makes e = omega (arith, min-le_left (nodes_of t) 4294967295, few_overs (postorder t), ap length e)

pub few_planted : (old new : ℕ) (makes : List Make) → (t : Tree) × (makes ≡ postorder t) → ((t : Tree) → makes ≡ postorder t → new ≤ old + need_for t) → new ≤ old + length makes
few_planted old new makes l f = omega (arith, f l.0 l.1, few_needed l.0 makes l.1)

-- a pool that is as it was
pub stays_same : (mark : ℕ) (pool : PoolView) → mark ≤ length pool.trees → StaysUpTo mark pool pool
stays_same mark pool l = record { kept = refl; long = l; limit = refl }

-- what is put behind a mark leaves what stands up to it
pub stays_behind : (mark : ℕ) (old low new : PoolView) → mark ≤ length old.trees → low.trees ≡ take mark old.trees → low.limit ≡ old.limit → Grows low new → StaysUpTo mark old new
stays_behind mark old low new l e f g =
    let long : length low.trees ≡ mark = ap length e ∙ length-take-le mark old.trees l in
    record {
      kept = ap (λ n. take n new.trees) (sym long) ∙ (g.kept ∙ e);
      long = (let up = Grows_length low new g in omega arith);
      limit = g.limit ∙ f;
    }

pub few_kept : (mark : ℕ) (old low new : PoolView) (makes : List Make) → mark ≤ length old.trees → low.trees ≡ take mark old.trees → mark + length makes ≤ length old.trees → length new.trees ≤ length low.trees + length makes → length new.trees ≤ length old.trees
few_kept mark old low new makes l e few h =
    let long : length low.trees ≡ mark = ap length e ∙ length-take-le mark old.trees l in
    omega arith

-- few nodes stand behind a mark
pub freed_early : (mark : ℕ) (pool : PoolView) (t : Tree) (behind : ℕ) → behind ≡ length pool.trees - mark → mark ≤ length pool.trees → behind < most_behind → IsFreed mark t pool
freed_early mark pool t behind e l h = omega arith

pub freed_long : (mark : ℕ) (pool : PoolView) (t : Tree) (makes : List Make) → makes ≡ postorder t → mark ≤ length pool.trees → length pool.trees - mark < length makes → IsFreed mark t pool
freed_long mark pool t makes e l h = omega (arith, ap length e)

pub freed_behind : (mark : ℕ) (old low new : PoolView) (t : Tree) (makes : List Make) → makes ≡ postorder t → mark ≤ length old.trees → low.trees ≡ take mark old.trees → length new.trees ≤ length low.trees + length makes → IsFreed mark t new
freed_behind mark old low new t makes p l e h =
    let long : length low.trees ≡ mark = ap length e ∙ length-take-le mark old.trees l in
    omega (arith, ap length p)

pub ruleset freeing = (freed_early, freed_long)

pub ruleset keeping = (Grows_same, few_planted, stays_same, stays_behind, few_kept, freed_behind)

-- declarations up to a mark are the same where what stands there is
pub declarations_stay : (mark : ℕ) (old new : PoolView) (ds : List Decl) → mark ≤ length old.trees → StaysUpTo mark old new → All (IsLive mark) ds → declarations new.trees ds ≡ declarations old.trees ds
declarations_stay mark old new ds l s a =
    let low : PoolView = record { trees = take mark old.trees; limit = old.limit; spare = 0 } in
    let long : length (take mark old.trees) ≡ mark = length-take-le mark old.trees l in
    let before : Grows low old = record { kept = ap (λ n. take n old.trees) long; limit = refl } in
    let behind : Grows low new = record { kept = ap (λ n. take n new.trees) long ∙ s.kept; limit = s.limit } in
    let live : All (IsLive (length low.trees)) ds = subst (λ n. All (IsLive n) ds) (sym long) a in
    declarations_grown low new ds behind live ∙ sym (declarations_grown low old ds before live)

-- so is what is well-formed
pub formed_stays : (mark : ℕ) (old new : PoolView) (decls : DeclsView) (t u : Tree) → mark ≤ length old.trees → StaysUpTo mark old new → All (IsLive mark) decls.list → u ≡ t → IsWellFormed (declarations old.trees decls.list) t → IsWellFormed (declarations new.trees decls.list) u
formed_stays mark old new decls t u l s a e w =
    subst (IsWellFormed (declarations new.trees decls.list)) (sym e) (subst (λ ds. IsWellFormed ds t) (sym (declarations_stay mark old new decls.list l s a)) w)
