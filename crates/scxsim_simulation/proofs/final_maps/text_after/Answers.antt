use Rattle.scxsim_simulation.proofs.final_maps.text_after.Goals as goal

pub returns : goal.returns
returns g c = rw (c.maps.ensures, c.run_silently.ensures.state, c.new-events.ensures.events, c.requires) at c.text_of-text.ensures
