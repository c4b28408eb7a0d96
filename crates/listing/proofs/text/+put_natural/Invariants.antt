-- The measure is the number.
use Rattle.listing.proofs.text.+put_natural.Given as goal

abbrev pub decreases-put_natural : goal.decreases-put_natural
decreases-put_natural l = l.n
