-- The queries of a file, one after the other: whether one of them asks for what has no values.
use Rattle.std.proofs.Common.{◌≡◌, ℕ, ◌||◌, ◌&&◌, not, Bool, true, false, List, ◌∷◌, refl, sym, ap, ◌∙◌}
use Rattle.std.specs.List.{list_any}
use Rattle.cv_syntax_trees.specs.Tree.{Tree}
use Rattle.cv_syntax_trees.specs.sites.Sites.{SitesView, sites_of}
use Rattle.cv_query_form.specs.Held.{valued}
use Rattle.cv_query_form.specs.Tests.{has_values}
use Rattle.cv_syntax.specs.declared.work.BuildError.TheVariants as build
use Rattle.cv_kernel_crypto.specs.declared.fault.CryptoFault.{CryptoFault}
use Rattle.cv_kernel_crypto.specs.declared.fault.CryptoFault.TheVariants as crypto
use Rattle.cv_kernel_crypto.specs.Faults.{IsNoNext, IsNotKept}

pub some_here : (test : Tree → Bool) (q : Tree) (qs all : List Tree) (d : Bool) → all ≡ q ∷ qs → d ≡ test q → d ≡ true → list_any test all ≡ true
some_here test q qs all d e f g = ap (list_any test) e ∙ ap (λ b. b || list_any test qs) (sym f ∙ g)

pub some_later : (test : Tree → Bool) (q : Tree) (qs all : List Tree) (d : Bool) → all ≡ q ∷ qs → d ≡ test q → d ≡ false → list_any test all ≡ list_any test qs
some_later test q qs all d e f g = ap (list_any test) e ∙ ap (λ b. b || list_any test qs) (sym f ∙ g)

-- by the table of a game's sites
pub game_values : (sites : SitesView) (game : Tree) (x : ℕ) (b : Bool) → sites ≡ sites_of game → b ≡ valued sites x → b ≡ has_values game x
game_values sites game x b e f = f ∙ ap (λ s. valued s x) e

-- a name without values is one that the game has, where it isn't that of a variable with values
pub unvalued : (v n b : Bool) → b ≡ v → b ≡ false → n ≡ (not v && n)
unvalued v n b e f = ap (λ u. not u && n) (sym f ∙ e)

pub valued_not : (v n b : Bool) → b ≡ v → b ≡ true → not b ≡ (not v && n)
valued_not v n b e f = ap not f ∙ ap (λ u. not u && n) (sym f ∙ e)

-- a query that asks for what has no values leaves no next game
pub unkept : (game sorts asks : Bool) → asks ≡ true → (game && (sorts && not asks)) ≡ false
unkept false sorts asks e = refl
unkept true false asks e = refl
unkept true true asks e = ap not e

pub kept_fault : (game sorts asks : Bool) (fault : CryptoFault) → IsNotKept asks fault → IsNoNext (game && (sorts && not asks)) fault
kept_fault game sorts asks (crypto.Refused f) k = (k.0, unkept game sorts asks k.1)
kept_fault game sorts asks (crypto.Build build.OutOfMemory) k = tt
kept_fault game sorts asks (crypto.Build (build.Full n)) k = absurd k
kept_fault game sorts asks (crypto.Build (build.Nodes n)) k = absurd k
kept_fault game sorts asks (crypto.Build (build.Depth n)) k = absurd k
