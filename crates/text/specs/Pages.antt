-- What is written onto a page.
use Rattle.std.specs.Prelude.{ℕ, ◌≡◌, List}
use Rattle.text.specs.declared.Page.{Page}
use Rattle.text.specs.Lines.{Wrote}

-- a text t written after what stands on a page: the page then ends after t, and has the same octets lent
abbrev pub Written : Page → List ℕ → Page → Type 0
Written p t q = Wrote p.octets.now p.end t q.octets.now q.end × (q.octets.ghost_name ≡ p.octets.ghost_name)
