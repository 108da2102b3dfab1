-- The ranges of documents 01 and 02. Each of their numbers stands once.
use Rattle.std.specs.Prelude.{ℕ, ◌+◌, ◌-◌, Bool, ◌&&◌, leb}

-- from the least to the greatest, both included
abbrev pub within : ℕ → ℕ → ℕ → Bool
within least greatest n = leb least n && leb n greatest

-- "A charge is 84 to" 2,020, the octets that a frame costs on the wire: "The largest charge becomes 2,020"
abbrev pub least_charge : ℕ
least_charge = 84

abbrev pub greatest_charge : ℕ
greatest_charge = 2020

abbrev pub charge_fits : ℕ → Bool
charge_fits = within least_charge greatest_charge

-- "the share is L − 2,020", "which leaves one largest best-effort frame per epoch"
abbrev pub share_of : ℕ → ℕ
share_of link = link - greatest_charge

-- the greatest share: 256 frames of the least charge, as many as a queue holds
abbrev pub greatest_share : ℕ
greatest_share = 21504

-- the L that has a share
abbrev pub link_of : ℕ → ℕ
link_of share = greatest_charge + share

-- "L, link octets in an epoch", "runs from 2,104 to 23,524": the share is at least the least charge
abbrev pub link_fits : ℕ → Bool
link_fits = within (link_of least_charge) (link_of greatest_share)

-- "K, best-effort delay bound in epochs, 1 to 16"
abbrev pub greatest_delay : ℕ
greatest_delay = 16

abbrev pub delay_fits : ℕ → Bool
delay_fits = within 1 greatest_delay

-- "P below 84" is refused; P has no upper end of its own
abbrev pub permitted_fits : ℕ → Bool
permitted_fits = leb least_charge

-- "VID outside 1 to 4,094"
abbrev pub vid_fits : ℕ → Bool
vid_fits = within 1 4094
