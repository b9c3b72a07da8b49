-- Steps that close a query. A query is closed once, by a certificate that is accepted in the last game, at what this costs, and the game
-- stays. This profile's own.
use Rattle.std.specs.Prelude.{ℕ, Bool, true, false, if◌then◌else◌, List, Option, Some, None, option_and_then}
use Rattle.cv_syntax_trees.specs.declared.head.Head.TheVariants.{SecretCertificate}
use Rattle.cv_syntax_trees.specs.Tree.{Tree, Node}
use Rattle.cv_meaning.specs.Queries.{queries_in}
use Rattle.cv_query_certificates.specs.Failures.{Failure, first_failure}
use Rattle.cv_scene.specs.Scenes.{Scene}
use Rattle.cv_scene.specs.Sights.{from_one}
use Rattle.cv_script.specs.Views.{StepItems, items_of_step}
use Rattle.cv_script.specs.Views as items
use Rattle.cv_steps.specs.Judgements.{Judgement, Accepted, Refused}
use Rattle.cv_costs.specs.Certificates.{cost_of_certificate}
use Rattle.cv_bound.specs.closings.Queries.{is_among}
use Rattle.cv_kernel.specs.Steps.{judgement_at}

-- a query by its number, from 1, and a certificate for it
pub record Closing : Type 0 where
  pub query : ℕ
  pub certificate : Tree

-- it is a certificate of secrecy
abbrev pub is_secret : (certificate : Tree) → Bool
is_secret (Node SecretCertificate parts e) = true
is_secret certificate = false

abbrev pub is_of_secrecy : Closing → Bool
is_of_secrecy c = is_secret c.certificate

abbrev pub closing_of_items : StepItems → Option Closing
closing_of_items (items.Success k certificate) = Some (record { query = k; certificate = certificate })
closing_of_items other = None

-- the query that a step closes, with its certificate, where it is such a step
abbrev pub closing_in : Tree → Option Closing
closing_in t = option_and_then closing_of_items (items_of_step t)

-- The first condition that fails, where these queries are closed: the query is there and isn't closed, and then the certificate's.
abbrev pub closing_failure : Scene → (closed : List ℕ) → Closing → Option Failure
closing_failure s closed c =
    if is_among closed c.query then Some (record { condition = 1; place = 0 })
    else first_failure s (from_one (queries_in s.declarations) c.query) c.certificate

-- what is said of any step, where these queries are closed

abbrev pub judgement_of_failure : Scene → (certificate : Tree) → Option Failure → Judgement
judgement_of_failure s certificate None = Accepted s.game (cost_of_certificate s certificate)
judgement_of_failure s certificate (Some f) = Refused f.condition f.place

abbrev pub judgement_by_closing : Scene → (closed : List ℕ) → (step : Tree) → Option Closing → Judgement
judgement_by_closing s closed t None = judgement_at s t
judgement_by_closing s closed t (Some c) = judgement_of_failure s c.certificate (closing_failure s closed c)

abbrev pub judgement_in : Scene → (closed : List ℕ) → (step : Tree) → Judgement
judgement_in s closed t = judgement_by_closing s closed t (closing_in t)
