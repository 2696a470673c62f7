-- What a reset of two lines is answered. Assumes nothing.
use Rattle.line.specs.declared.presence.Presence.{Presence}
use Rattle.line.specs.declared.presence.Presence.TheVariants.{Present, Empty}

-- present where either line is
abbrev pub together : Presence → Presence → Presence
together Present other = Present
together Empty other = other
